use Prim.Native.Nat.{◌*◌}
use mathlib.Core.Path.{◌≡◌}
use lib.ListN.{replicate}
use Rattle.bits.specs.Bits.{put_bits}
use Rattle.bits.proofs.span.put_span.Given as goal

abbrev pub invariant-loop-i : goal.invariant-loop-i
invariant-loop-i l = l.s ≡ put_bits l.fn.s l.pos (replicate (64 * l.i) l.ones)
