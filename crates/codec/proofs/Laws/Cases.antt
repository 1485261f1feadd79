-- The laws of specs/Cases.antt.
use Rattle.std.specs.Prelude.{ℕ, zero, suc, ◌≤◌, ◌<◌, ◌≡◌, refl, List, Bool, true, false, length, get_or, eqb}
use Rattle.std.proofs.Common.{sym, arith}
use Rattle.std.proofs.Math.ListN.{get_or-eq_default}
use Rattle.std.proofs.lemmas.Bool.{eqb-false}
use Rattle.bits.specs.Bits.{digit}
use Rattle.codec.proofs.Laws.AllBelow.{numbers}
use Rattle.codec.specs.Cases.{flag, Unmatched}

pub flag-back : (b : Bool) → flag (digit b) ≡ b
flag-back true = refl
flag-back false = refl

-- the bit of a flag that was read
pub flag-again : (v : ℕ) → v < 2 → digit (flag v) ≡ v
flag-again = numbers digit flag 2 refl

-- a bit that is not 0
pub one_again : (v : ℕ) → v < 2 → eqb v 0 ≡ false → v ≡ 1
one_again v h e = omega (arith, eqb-false v 0 e)

pub unmatched : (n v : ℕ) → Unmatched n v → n ≤ v
unmatched zero v h = omega arith
unmatched (suc n) v h = let l = unmatched n v h.0 in omega (arith, h.1)

-- the last arm of a match, where the cases of the arms before it are a list
pub last_case : {A : Type 0} (cases : List A) (last : A) (v : ℕ) → Unmatched (length cases) v → last ≡ get_or cases v last
last_case cases last v h = sym (get_or-eq_default cases last (unmatched (length cases) v h))
