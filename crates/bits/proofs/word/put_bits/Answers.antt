use native.Mathlib.Omega.{arith}
use mathlib.Core.Path.{sym}
use Rattle.bits.proofs.Laws.Values.{bits-zero}
use Rattle.bits.proofs.Laws.Writes.{put_bits-nil}
use Rattle.bits.proofs.word.put_bits.Goals as goal

pub returns-then-n-eq0 : goal.returns-then-n-eq0
returns-then-n-eq0 c = rw (c.if-n-eq0.true, bits-zero) (sym (put_bits-nil _ _ (λ i. omega (arith, c.type_inv.s i))))
