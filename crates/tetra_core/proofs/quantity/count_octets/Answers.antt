use Prim.Native.Nat.{◌≤◌, ◌<◌}
use native.Mathlib.Omega.{arith}
use borrow.Author.Tests.{le-leb, lt-leb}
use Rattle.tetra_core.specs.Quantity.{octets_of, octet_count}
use Rattle.tetra_core.proofs.quantity.count_octets.Goals as goal

pub returns-then-bits : goal.returns-then-bits
unfolding octet_count
returns-then-bits c =
    let h : 61 < octets_of c.args.bits = omega arith in
    rw (lt-leb _ _ h)

pub returns : goal.returns
unfolding octet_count
returns c =
    let h : octets_of c.args.bits ≤ 61 = omega arith in
    rw (le-leb _ _ h)
