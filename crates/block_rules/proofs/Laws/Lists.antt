-- Parts and fields of lists of bits, and the fill at the end of one.
use Rattle.std.specs.Prelude.{◌≡◌, refl, Bool, true, false, cond, List, [], ◌∷◌, ◌++◌, ℕ, zero, suc, ◌+◌, ◌≤◌, ◌<◌, length, get_or, take, drop, replicate, Option, Some, None}
use Rattle.std.proofs.Common.{sym, ◌∙◌, append-nil, arith, length-take, length-drop, ext_get_or, get_or-take, get_or-drop}
use Rattle.std.proofs.Math.Path.{ap}
use Rattle.std.proofs.lemmas.List.{length-replicate}
use Rattle.std.proofs.Math.Seq.{take-append_seam}
use Rattle.bits.specs.Bits.{val}
use Rattle.codec.proofs.Laws.Ahead.{part-take}
use Rattle.block_rules.specs.Extent.{field}
use Rattle.block_rules.specs.Read.{extend, before_last_one}
use Rattle.block_rules.specs.Writer.{fill_bits}

-- cases on a test, with the equation
pub cond_ind {ℓ} : {A : Type 0} (P : A → Type ℓ) (c : Bool) (x y : A) → (c ≡ true → P x) → (c ≡ false → P y) → P (cond c x y)
cond_ind P true x y f g = f refl
cond_ind P false x y f g = g refl

-- ---- fields

-- two lists of one length that have the same bits in a part have the same part
pub part_same : (o w : ℕ) (r r' : List Bool) → length r ≡ length r'
    → ((i : ℕ) → o ≤ i → i < o + w → get_or r i false ≡ get_or r' i false)
    → take w (drop o r) ≡ take w (drop o r')
part_same o w r r' e h =
    ext_get_or false (take w (drop o r)) (take w (drop o r')) (simp (length-take, length-drop, e))
    (λ i k. let m : i < w = omega (arith, simp (length-take, length-drop) at k) in
    rw (get_or-take w (drop o r) i false m, get_or-take w (drop o r') i false m, get_or-drop o r i false, get_or-drop o r' i false)
    (h (o + i) (omega arith) (omega arith)))

pub field-take : (o w s : ℕ) (bits : List Bool) → o + w ≤ s → field o w (take s bits) ≡ field o w bits
unfolding field
field-take o w s bits h = ap val (part-take o w s bits h)

pub field-append : (o w : ℕ) (x y : List Bool) → o + w ≤ length x → field o w (x ++ y) ≡ field o w x
field-append o w x y h = sym (field-take o w (length x) (x ++ y) h) ∙ ap (field o w) (take-append_seam x y)

pub field-same : (o w : ℕ) (r r' : List Bool) → length r ≡ length r'
    → ((i : ℕ) → o ≤ i → i < o + w → get_or r i false ≡ get_or r' i false)
    → field o w r ≡ field o w r'
unfolding field
field-same o w r r' e h = ap val (part_same o w r r' e h)

-- ---- fill

pub length-fill : (n : ℕ) → length (fill_bits n) ≡ n
unfolding fill_bits
length-fill zero = refl
length-fill (suc n) = ap suc (length-replicate n false)

pub no_one : (n : ℕ) → before_last_one (replicate n false) ≡ None
unfolding before_last_one extend
no_one zero = refl
no_one (suc n) = rw (no_one n)

-- the last 1 of two lists is the second one's, or where that has none the first one's
pub before-none : (xs ys : List Bool) → before_last_one ys ≡ None → before_last_one (xs ++ ys) ≡ before_last_one xs
unfolding before_last_one
before-none [] ys e = e
before-none (x ∷ xs) ys e = rw (before-none xs ys e)

pub before-some : (xs ys c : List Bool) → before_last_one ys ≡ Some c → before_last_one (xs ++ ys) ≡ Some (xs ++ c)
unfolding before_last_one extend
before-some [] ys c e = e
before-some (x ∷ xs) ys c e = rw (before-some xs ys c e)

pub before-fill : (c : List Bool) (n : ℕ) → before_last_one (c ++ (true ∷ replicate n false)) ≡ Some c
before-fill c n = before-some c (true ∷ replicate n false) [] (unfold before_last_one extend in rw (no_one n)) ∙ ap Some (append-nil c)

-- what stands before the last 1 is what the list starts with
StartsWith : List Bool → Option (List Bool) → Type 0
StartsWith bits None = Unit {0}
StartsWith bits (Some c) = (length c ≤ length bits) × (take (length c) bits ≡ c)

starts_extend : (x : Bool) (xs : List Bool) (o : Option (List Bool)) → StartsWith xs o → StartsWith (x ∷ xs) (extend x o)
unfolding StartsWith extend
starts_extend x xs (Some c) f = (omega (arith, f.0), ap (λ l. x ∷ l) f.1)
starts_extend true xs None f = (omega arith, refl)
starts_extend false xs None f = tt

starts_of : (bits : List Bool) → StartsWith bits (before_last_one bits)
unfolding StartsWith before_last_one
starts_of [] = tt
starts_of (x ∷ xs) = starts_extend x xs (before_last_one xs) (starts_of xs)

pub before_starts : (bits c : List Bool) → before_last_one bits ≡ Some c → (length c ≤ length bits) × (take (length c) bits ≡ c)
unfolding StartsWith
before_starts bits c e = rw e at (starts_of bits)
