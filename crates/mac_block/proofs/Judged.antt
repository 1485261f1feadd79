-- What is judged, as a call takes it and answers it.
use Rattle.std.specs.Prelude.{Result, Ok, Err}
use Rattle.std.specs.Result.{is_err}
use mathlib.Core.Path.{◌≡◌, refl}
use mathlib.Core.Bool.{Bool, true, false}
use Prim.Native.Nat.{ℕ, zero, suc}
use native.Mathlib.Omega.{arith}
use Rattle.tetra_core.specs.Refusal.{refused_by, numbered}
use Rattle.tetra_core.specs.declared.refusal.Reason.{Reason}
use Rattle.tetra_core.specs.BitBuffer.{outcome}

-- what is an error has a number
pub refused-some : (b : Result (Unit {0}) Reason) → is_err b ≡ true → refused_by b ≡ 0 → ⊥
refused-some (Ok u) e z = absurd (let n : ◌≡◌ {A = Bool} false true = e in cc)
refused-some (Err r) e z = (numbered r).some z

-- it is the answer of its number
pub outcome_is : (b : Result (Unit {0}) Reason) (j : ℕ) → refused_by b ≡ j → b ≡ outcome j
outcome_is (Ok u) zero e = refl
outcome_is (Ok u) (suc j) e = absurd (omega arith)
outcome_is (Err r) zero e = absurd ((numbered r).some e)
outcome_is (Err r) (suc j) e = rw (← e, (numbered r).back)
