-- A signed offset in the machine's 64 bits: how far a negative one reaches back.
use Prim.Native.Nat.{ℕ, zero, suc, ◌^◌, ◌<◌}
use mathlib.Core.Path.{◌≡◌, refl, ◌∙◌}
use mathlib.Core.Bool.{true}
use native.Mathlib.Omega.{arith}
use borrow.Author.Tests.{ltb-true}
use borrow.Author.Rules.{sfits_of}
use lib.IntN.{ℤ, pos, negsuc, neg_ℤ, ◌+ℤ◌, ◌-ℤ◌, +ℤ_one, +ℤ_idl, neg_ℤ-neg_ℤ}
use lib.Signed.{mag, lt_z}
use mir.Syntax.{w64}
use mir.Val.{SFits}

-- the number after a negative one, and that number negated, both fit; negated it is the magnitude
pub record Back (z : ℤ) : Type 0 where
  pub next_fits : SFits w64 (z +ℤ pos 1)
  pub back_fits : SFits w64 (pos 0 -ℤ (z +ℤ pos 1))
  pub back_is : pos 0 -ℤ (z +ℤ pos 1) ≡ pos (mag z)

next : (k : ℕ) → negsuc k +ℤ pos 1 ≡ neg_ℤ (pos k)
next zero = refl
next (suc j) = +ℤ_one (negsuc (suc j))

back : (k : ℕ) → pos 0 -ℤ neg_ℤ (pos k) ≡ pos k
back k = +ℤ_idl (neg_ℤ (neg_ℤ (pos k))) ∙ neg_ℤ-neg_ℤ (pos k)

magnitude : (k : ℕ) → k < 2 ^ 63 → mag (neg_ℤ (pos k)) < 2 ^ 63
magnitude zero h = h
magnitude (suc j) h = omega arith

pub back-of : (z : ℤ) → lt_z z (pos 0) ≡ true → SFits w64 z → Back z
back-of (pos k) n f = absurd (let h = ltb-true k 0 n in omega arith)
back-of (negsuc k) n f =
    record {
      next_fits = rw (next k) (sfits_of (magnitude k f.sfits));
      back_fits = rw (next k, back k) (sfits_of f.sfits);
      back_is = rw (next k, back k);
    }
