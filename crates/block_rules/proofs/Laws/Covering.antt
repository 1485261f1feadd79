-- What a cover of a block says of its entries: each lies in the block, and one behind the other.
use Rattle.std.proofs.lemmas.Option.{same_Some, none-some}
use Rattle.std.specs.Prelude.{◌≡◌, refl, length, Some, None, slice_get}
use Rattle.std.proofs.Common.{sym}
use Rattle.std.proofs.Math.Path.{subst}
use mathlib.Core.List.{List, [], ◌∷◌}
use Prim.Native.Nat.{ℕ, zero, suc, ◌+◌, ◌*◌, ◌≤◌, ◌<◌}
use Rattle.std.proofs.Math.Nat.{le_refl, suc_inj}
use native.Mathlib.Omega.{arith}
use Rattle.block_rules.specs.Numbers.{least_bits}
use Rattle.block_rules.specs.Walk.{Entry, own_size, size_in}
use Rattle.block_rules.specs.Demand3.{Covers}

-- every entry of a list
abbrev pub Each : {A : Type 0} → (A → Type 0) → List A → Type 0
Each P xs = (k : ℕ) (x : _) → slice_get xs k ≡ Some x → P x

pub each_nil : {A : Type 0} (P : A → Type 0) → Each P []
each_nil P k x e = absurd (none-some x e)

pub each_cons : {A : Type 0} (P : A → Type 0) (a : A) (xs : List A) → P a → Each P xs → Each P (a ∷ xs)
each_cons P a xs p ps zero x e = subst P (same_Some a x e) p
each_cons P a xs p ps (suc k) x e = ps k x e

-- lists of one length end at one place
pub none-same : {A : Type 0} (xs ys : List A) (k : ℕ) → length ys ≡ length xs → slice_get xs k ≡ None → slice_get ys k ≡ None
none-same [] [] k e x = refl
none-same [] (y ∷ ys) k e x = absurd (omega arith)
none-same (x ∷ xs) [] k e h = refl
none-same (x ∷ xs) (y ∷ ys) zero e h = absurd (none-some x (sym h))
none-same (x ∷ xs) (y ∷ ys) (suc k) e h = none-same xs ys k (suc_inj e) h

-- a PDU at bit p or behind has 16 bits or more and ends in a block of n bits
pub record Lies {H : Type 0} (n p : ℕ) (e : Entry H) : Type 0 where
  pub behind : p ≤ e.bit
  pub long : least_bits ≤ size_in n e
  pub within : e.bit + size_in n e ≤ n

module _ {H : Type 0} (n : ℕ) where
  start_in : {p r : ℕ} {es : List (Entry H)} → Covers n p es r → p ≤ n
  start_in (Covers.end h k) = h
  start_in (Covers.null h) = omega arith
  start_in (Covers.unsized h) = omega arith
  start_in (Covers.sized h c) = omega (arith, start_in c)

  pub lies : {p r : ℕ} {es : List (Entry H)} → Covers n p es r → Each (Lies n p) es
  unfolding own_size
  lies (Covers.end h k) = each_nil _
  lies (Covers.null h) = each_cons _ _ [] (record { behind = le_refl _; long = le_refl _; within = h }) (each_nil _)
  lies (Covers.unsized h) = each_cons _ _ [] (record { behind = le_refl _; long = omega arith; within = omega arith }) (each_nil _)
  lies (Covers.sized {es = es} h c) =
      each_cons _ _ es (record { behind = le_refl _; long = h; within = start_in c })
      (λ k e x. let l = lies c k e x in record { behind = omega arith; long = l.long; within = l.within })

  -- each PDU begins where one before it ends, or behind
  pub apart : {p r : ℕ} {es : List (Entry H)} → Covers n p es r → (j k : ℕ) (d e : Entry H) → j < k
      → slice_get es j ≡ Some d → slice_get es k ≡ Some e → d.bit + size_in n d ≤ e.bit
  unfolding own_size
  apart c j zero d e h x y = absurd (omega arith)
  apart (Covers.end _ _) j (suc k) d e h x y = absurd (none-some e y)
  apart (Covers.null _) j (suc k) d e h x y = absurd (none-some e y)
  apart (Covers.unsized _) j (suc k) d e h x y = absurd (none-some e y)
  apart (Covers.sized _ c) zero (suc k) d e h x y =
      subst (λ a. a.bit + size_in n a ≤ e.bit) (same_Some _ d x) (lies c k e y).behind
  apart {p = p} (Covers.sized {s = s} _ c) (suc j) (suc k) d e h x y = apart {p = p + s} c j k d e (omega arith) x y

  -- a walk has at most one entry for each 16 bits
  pub at_most : {p r : ℕ} {es : List (Entry H)} → Covers n p es r → p + least_bits * length es ≤ n
  at_most (Covers.end h k) = omega arith
  at_most (Covers.null h) = omega arith
  at_most (Covers.unsized h) = omega arith
  at_most (Covers.sized h c) = omega (arith, at_most c)
