use Prim.Native.Nat.{◌+◌, ◌*◌, ◌≤◌, ◌<◌}
use native.Mathlib.Omega.{arith}
use borrow.Author.Tests.{lt-ltb, le-ltb, le-leb, lt-leb}
use Rattle.block_rules.specs.Extent.{counted_extent}
use Rattle.mac_block.proofs.extent.counted_extent.Goals as goal

pub returns-then-length-lt-LEAST_OCTETS : goal.returns-then-length-lt-LEAST_OCTETS
unfolding counted_extent
returns-then-length-lt-LEAST_OCTETS c = rw (lt-ltb _ _ c.if-length-lt-LEAST_OCTETS.true)

pub returns-then-bits-left : goal.returns-then-bits-left
unfolding counted_extent
returns-then-bits-left c =
    let a = c.args in
    let h : 8 * a.length.0 ≤ a.left = omega arith in
    rw (c.octets_to_bits-bits.ensures, le-ltb _ _ c.if-length-lt-LEAST_OCTETS.false, le-leb _ _ h)

pub returns-then-bits-left-lt8 : goal.returns-then-bits-left-lt8
unfolding counted_extent
returns-then-bits-left-lt8 c =
    let a = c.args in
    let h : a.left < 8 * a.length.0 = omega arith in
    let k : 8 * a.length.0 < a.left + 8 = omega arith in
    rw (le-ltb _ _ c.if-length-lt-LEAST_OCTETS.false, lt-leb _ _ h, lt-ltb _ _ k)

pub returns : goal.returns
unfolding counted_extent
returns c =
    let a = c.args in
    let h : a.left < 8 * a.length.0 = omega arith in
    let k : a.left + 8 ≤ 8 * a.length.0 = omega arith in
    rw (le-ltb _ _ c.if-length-lt-LEAST_OCTETS.false, lt-leb _ _ h, le-ltb _ _ k)
