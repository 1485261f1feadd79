use Rattle.std.specs.Prelude.{None, Some}
use Prim.Native.Nat.{ℕ, suc, ◌+◌, ◌-◌, ◌≤◌, ◌<◌}
use mathlib.Core.Path.{◌≡◌, refl}
use mathlib.Core.Bool.{true, false}
use native.Mathlib.Omega.{arith}
use borrow.Author.Tests.{ltb-true, lt-ltb, le-ltb}
use lib.IntN.{ℤ, pos, negsuc, nat_abs, ◌+ℤ◌}
use lib.Signed.{mag, lt_z}
use mir.Facts.{to_z-of_z}
use Rattle.tetra_core.specs.BitBuffer.{place_of}
use Rattle.tetra_core.proofs.Signed.{Back, back-of}
use Rattle.tetra_core.proofs.bitbuffer.place_of.Goals.{Then-offset-lt0}
use Rattle.tetra_core.proofs.bitbuffer.place_of.Goals as goal

-- ---- by the sign of the offset

before-0 : (p : ℕ) (z : ℤ) → lt_z z (pos 0) ≡ true → p ≤ mag z → None ≡ place_of (pos p +ℤ z)
unfolding place_of
before-0 p (pos k) n h = absurd (let l = ltb-true k 0 n in omega arith)
before-0 p (negsuc k) n h = rw (lt-ltb p (suc k) (omega arith))

back_by : (p : ℕ) (z : ℤ) → lt_z z (pos 0) ≡ true → mag z < p → Some (p - 1 - mag z) ≡ place_of (pos p +ℤ z)
unfolding place_of
back_by p (pos k) n h = absurd (let l = ltb-true k 0 n in omega arith)
back_by p (negsuc k) n h =
    let e : p - 1 - k ≡ p - suc k = omega arith in
    rw (le-ltb p (suc k) (omega arith), e)

ahead : (p : ℕ) (z : ℤ) → lt_z z (pos 0) ≡ false → Some (p + nat_abs z) ≡ place_of (pos p +ℤ z)
unfolding place_of
ahead p (pos k) n = refl
ahead p (negsuc k) n = absurd (let e : ◌≡◌ {A = ℕ} 0 1 = cc in omega arith)

-- ---- the needs

negative : (c : Then-offset-lt0) → lt_z c.args.offset (pos 0) ≡ true
negative c = rw (to_z-of_z c.ranges.offset) at c.if-offset-lt0.true

offset : (c : Then-offset-lt0) → Back c.args.offset
offset c = back-of _ (negative c) c.ranges.offset

pub returns-then-pos-back : goal.returns-then-pos-back
returns-then-pos-back c =
    let o = offset (goal.at.returns-then-pos-back c).Then-offset-lt0 in
    before-0 _ c.args.offset (negative (goal.at.returns-then-pos-back c).Then-offset-lt0)
    (rw (to_z-of_z c.ranges.offset, to_z-of_z o.next_fits, to_z-of_z o.back_fits, o.back_is) at c.if-pos-back.true)

pub returns-then-offset-lt0 : goal.returns-then-offset-lt0
returns-then-offset-lt0 c =
    let o = offset (goal.at.returns-then-offset-lt0 c).Then-offset-lt0 in
    rw (to_z-of_z c.ranges.offset, to_z-of_z o.next_fits, to_z-of_z o.back_fits, o.back_is)
    (back_by _ c.args.offset (negative (goal.at.returns-then-offset-lt0 c).Then-offset-lt0)
    (rw (to_z-of_z c.ranges.offset, to_z-of_z o.next_fits, to_z-of_z o.back_fits, o.back_is) at c.if-pos-back.false))

pub returns : goal.returns
returns c = rw (to_z-of_z c.ranges.offset) (ahead _ _ (rw (to_z-of_z c.ranges.offset) at c.if-offset-lt0.false))
