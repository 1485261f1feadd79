-- The laws of specs/AllBelow.antt.
use Rattle.std.specs.Prelude.{ℕ, zero, suc, ◌<◌, ◌≡◌, refl, Bool, true, false, eqb}
use Rattle.std.proofs.Common.{arith, eqb-true}
use Rattle.std.proofs.lemmas.Bool.{eqb-false}
use Rattle.tetra_core.specs.Laws.Windows.{and_both}
use Rattle.codec.specs.AllBelow.{all_below}

pub below : (n : ℕ) (t : ℕ → Bool) → all_below n t ≡ true → (v : ℕ) → v < n → t v ≡ true
below zero t e v h = absurd (omega arith)
below (suc n) t e v h = let b = and_both (t n) (all_below n t) e in go (eqb v n) refl b.0 (below n t b.1 v)
  where
    go : (b : Bool) → eqb v n ≡ b → t n ≡ true → (v < n → t v ≡ true) → t v ≡ true
    go true q top rest = rw (eqb-true v n q) top
    go false q top rest = rest (omega (arith, eqb-false v n q))

-- the number of the case of a number is that number
pub numbers : {A : Type 0} (number : A → ℕ) (case : ℕ → A) (n : ℕ) → all_below n (λ v. eqb (number (case v)) v) ≡ true → (v : ℕ) → v < n → number (case v) ≡ v
numbers number case n e v h = eqb-true _ _ (below n (λ v. eqb (number (case v)) v) e v h)
