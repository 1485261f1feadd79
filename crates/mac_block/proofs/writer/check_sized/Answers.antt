use Prim.Native.Nat.{◌+◌, ◌≤◌, ◌<◌}
use mathlib.Core.Path.{sym}
use native.Mathlib.Omega.{arith}
use borrow.Author.Tests.{le-leb, lt-leb}
use Rattle.tetra_core.specs.Refusal.{first, first_last}
use Rattle.block_rules.specs.Numbers.{most_bits}
use Rattle.block_rules.specs.Writer.{check_of}
use Rattle.mac_block.proofs.writer.check_sized.Goals as goal

pub returns-then-content_bits-gt-MOST_BITS : goal.returns-then-content_bits-gt-MOST_BITS
unfolding check_of first
returns-then-content_bits-gt-MOST_BITS c =
    let a = c.args in
    let h : most_bits < a.header_bits + a.content_bits = omega arith in
    rw (lt-leb _ _ h)

pub returns-then-header_bits-content_bits-gt-MOST_BITS : goal.returns-then-header_bits-content_bits-gt-MOST_BITS
unfolding check_of first
returns-then-header_bits-content_bits-gt-MOST_BITS c =
    let a = c.args in
    let h : most_bits < a.header_bits + a.content_bits = omega arith in
    rw (lt-leb _ _ h)

pub returns : goal.returns
unfolding check_of first
returns c =
    let a = c.args in
    let h : a.header_bits + a.content_bits ≤ most_bits = omega arith in
    rw (le-leb _ _ h) (sym (first_last _))
