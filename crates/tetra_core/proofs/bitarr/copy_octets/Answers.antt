use mathlib.Core.Bool.{false}
use native.Mathlib.Nat.{zero-add}
use native.Mathlib.Omega.{arith}
use lib.ListN.{replicate}
use Rattle.bits.specs.Bits.{bits_at}
use Rattle.tetra_core.specs.Quantity.{fill_of}
use Rattle.bits.proofs.Laws.Reads.{length_bits_at}
use Rattle.bits.proofs.Laws.Writes.{put_bits-append}
use Rattle.tetra_core.proofs.bitarr.copy_octets.Goals as goal

pub returns : goal.returns
returns c =
    let a = c.args in
    let n = length_bits_at a.s.now a.pos a.n (omega arith) in
    rw (c.put_span.ensures, c.copy_span.ensures)
    (rw (n, zero-add) at (put_bits-append a.buf.now 0 (bits_at a.s.now a.pos a.n) (replicate (fill_of a.n) false) (omega (arith, n))))
