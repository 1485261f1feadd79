use Prim.Native.Nat.{◌*◌}
use mathlib.Core.Path.{◌≡◌}
use Rattle.bits.specs.Bits.{bits_at, put_bits}
use Rattle.bits.proofs.span.copy_span.Given as goal

abbrev pub invariant-loop-i : goal.invariant-loop-i
invariant-loop-i l = l.t ≡ put_bits l.fn.t l.tpos (bits_at l.s l.spos (64 * l.i))
