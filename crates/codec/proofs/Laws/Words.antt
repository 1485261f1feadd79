-- The laws of specs/Words.antt.
use Rattle.std.specs.Prelude.{ℕ, zero, suc, ◌+◌, ◌-◌, ◌/◌, ◌%◌, ◌^◌, ◌≤◌, ◌<◌, ◌≡◌, refl, List, [], ◌∷◌, ◌++◌, Bool, true, false, length, take, drop, get_or, leb, eqb}
use Rattle.std.proofs.Common.{sym, ap, ◌∙◌, append_assoc, arith, add_assoc, add-zero, div-one, mod-eq_of_lt, add-one, length-drop, drop_of_length-le, drop-cons, leb-true, leb-false, le-leb, eqb-true}
use Rattle.std.proofs.Math.Nat.{pow-zero}
use Rattle.std.proofs.Math.Dec.{when}
use Rattle.std.proofs.lemmas.Bool.{lt-leb}
use Rattle.bits.specs.Bits.{val, bits_of_nat}
use Rattle.bits.proofs.Laws.Values.{length-bits_of_nat, val-bits_of_nat, bits_of_nat-add, bits-zero}
use Rattle.codec.specs.Reader.{got, refused, field_at, Reader, done, refuse, field, here, choose, parse}
use Rattle.codec.proofs.Laws.Reader.{field-there, field-short, field-front}
use Rattle.codec.specs.Words.{past, part, onward, parse_word, total, short_at, Starts}

pub past_is : (o u : ℕ) → past o u ≡ o + u
past_is o zero = sym (add-zero o)
past_is o (suc u) = refl

part-is : (x m w : ℕ) → part x m w ≡ x / 2 ^ m % 2 ^ w
part-is x zero w = rw (pow-zero, div-one)
part-is x (suc m) w = refl

-- a field out of a word, and a word that is one field
pub field-word : (w m x : ℕ) (rest : List Bool) (o : ℕ)
    → field_at w (bits_of_nat (w + m) x ++ rest) o ≡ got (x / 2 ^ m % 2 ^ w) (bits_of_nat m x ++ rest) (o + w)
field-word w m x rest o =
    rw (bits_of_nat-add w m x, append_assoc, field-front w (bits_of_nat w (x / 2 ^ m)) (bits_of_nat m x ++ rest) o (length-bits_of_nat w _), val-bits_of_nat)

pub field-alone : (w x : ℕ) (rest : List Bool) (o : ℕ) → x < 2 ^ w → field_at w (bits_of_nat w x ++ rest) o ≡ got x rest (o + w)
field-alone w x rest o h =
    rw (field-front w (bits_of_nat w x) rest o (length-bits_of_nat w x), val-bits_of_nat, mod-eq_of_lt h)

-- a reader of bits that begin with a word
pub parse-word : {A : Type 0} (p : Reader A) (x n u : ℕ) (rest : List Bool) (o : ℕ) → parse p (bits_of_nat n x ++ rest) (past o u) ≡ parse_word p x n u rest o
parse-word (done a) x n u rest o = refl
parse-word (refuse j at) x n u rest o = refl
parse-word (here k) x n u rest o = parse-word (k (past o u)) x n u rest o
parse-word (choose true p q) x n u rest o = parse-word p x n u rest o
parse-word (choose false p q) x n u rest o = parse-word q x n u rest o
parse-word {A} (field w k) x n u rest o = go (leb w n) refl (λ v m z. parse-word (k v) x m z rest o)
  where
    on : (v m z : ℕ) → parse (k v) (bits_of_nat m x ++ rest) (past o z) ≡ parse_word (k v) x m z rest o
        → parse (k v) (bits_of_nat m x ++ rest) (past o z) ≡ onward m (parse_word (k v) x m z rest o) (parse (k v) rest (past o z))
    on v zero z e = rw bits-zero
    on v (suc m) z e = e

    go : (b : Bool) → leb w n ≡ b → ((v m z : ℕ) → parse (k v) (bits_of_nat m x ++ rest) (past o z) ≡ parse_word (k v) x m z rest o)
        → parse (field w k) (bits_of_nat n x ++ rest) (past o u) ≡ parse_word (field w k) x n u rest o
    go true e f =
        let h = leb-true w n e in
        let step : past o u + w ≡ past o (u + w) = rw (past_is o u, past_is o (u + w), add_assoc) in
        let d : n ≡ w + (n - w) = omega arith in
        rw e (ap (λ (z : ℕ). parse (field w k) (bits_of_nat z x ++ rest) (past o u)) d
        ∙ rw (field-word w (n - w) x rest (past o u), step, ← part-is x (n - w) w)
        (on (part x (n - w) w) (n - w) (u + w) (f (part x (n - w) w) (n - w) (u + w))))
    go false e f = rw e

short-here : (w : ℕ) (ws : List ℕ) (n : ℕ) → n < w → short_at (w ∷ ws) n ≡ 0
unfolding short_at
short-here w ws n h = rw (lt-leb w n h)

short_on : (w : ℕ) (ws : List ℕ) (n : ℕ) → w ≤ n → short_at (w ∷ ws) n ≡ w + short_at ws (n - w)
unfolding short_at
short_on w ws n h = rw (le-leb w n h)

when_both : (b : Bool) (t : Type 0) → when b t → (b ≡ true) × t
when_both true t x = (refl, x)
when_both false t x = absurd x

pub short : {A : Type 0} (p : Reader A) (ws : List ℕ) (bs : List Bool) (o : ℕ) → Starts ws p → length bs < total ws
    → parse p bs o ≡ refused 1 (o + short_at ws (length bs))
short p [] bs o s h = absurd (omega arith)
short (done a) (w ∷ ws) bs o s h = absurd s
short (refuse j at) (w ∷ ws) bs o s h = absurd s
short (choose b p q) (w ∷ ws) bs o s h = absurd s
short (here k) (w ∷ ws) bs o s h = short (k o) (w ∷ ws) bs o (s o) h
short {A} (field v k) (w ∷ ws) bs o s h = go (leb w (length bs)) refl (λ x r. short (k x) ws r (o + w))
  where
    both : (eqb v w ≡ true) × ((x : ℕ) → Starts ws (k x))
    both = when_both (eqb v w) _ s

    go : (b : Bool) → leb w (length bs) ≡ b
        → ((x : ℕ) (r : List Bool) → Starts ws (k x) → length r < total ws → parse (k x) r (o + w) ≡ refused 1 (o + w + short_at ws (length r)))
        → parse (field v k) bs o ≡ refused 1 (o + short_at (w ∷ ws) (length bs))
    go true e f =
        let i = leb-true w (length bs) e in
        let l = length-drop w bs in
        rw (eqb-true v w both.0, field-there w bs o i, short_on w ws (length bs) i)
        (f (val (take w bs)) (drop w bs) (both.1 (val (take w bs))) (omega arith) ∙ rw (l, add_assoc))
    go false e f =
        let i = leb-false w (length bs) e in
        rw (eqb-true v w both.0, field-short w bs o i, short-here w ws (length bs) i, add-zero)

-- a turn of the loop that looks for it
pub short_stop : (ws : List ℕ) (i n : ℕ) → i < length ws → n < get_or ws i 0 → short_at (drop i ws) n ≡ 0
short_stop ws i n h k = rw (drop-cons ws i 0 h, short-here _ _ _ k)

pub short_more : (ws : List ℕ) (i n : ℕ) → i < length ws → get_or ws i 0 ≤ n
    → short_at (drop i ws) n ≡ get_or ws i 0 + short_at (drop (i + 1) ws) (n - get_or ws i 0)
short_more ws i n h k = rw (drop-cons ws i 0 h, short_on _ _ _ k, add-one)

pub short-end : (ws : List ℕ) (i n : ℕ) → length ws ≤ i → short_at (drop i ws) n ≡ 0
unfolding short_at
short-end ws i n h = rw (drop_of_length-le ws {i = i} h)
