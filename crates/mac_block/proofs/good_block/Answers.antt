use Prim.Native.Nat.{◌*◌, ◌≤◌, ◌<◌}
use native.Mathlib.Omega.{arith}
use borrow.Author.Tests.{le-leb, lt-leb}
use Rattle.block_rules.specs.Walk.{good_block}
use Rattle.mac_block.proofs.good_block.Goals as goal

pub returns-then-bits-gt-MOST_BITS : goal.returns-then-bits-gt-MOST_BITS
unfolding good_block
returns-then-bits-gt-MOST_BITS c = rw (lt-leb _ _ c.if-bits-gt-MOST_BITS.true)

pub returns-then-len-bits : goal.returns-then-len-bits
unfolding good_block
returns-then-len-bits c =
    let a = c.args in
    let h : 8 * a.len < a.bits = omega arith in
    rw (le-leb _ _ c.if-bits-gt-MOST_BITS.false, lt-leb _ _ h)

pub returns : goal.returns
unfolding good_block
returns c =
    let a = c.args in
    let h : a.bits ≤ 8 * a.len = omega arith in
    rw (le-leb _ _ c.if-bits-gt-MOST_BITS.false, le-leb _ _ h)
