use Rattle.bits.specs.Bits.{val}
use Rattle.bits.proofs.span.filled.Goals as goal

pub returns-then-ones : goal.returns-then-ones
unfolding val
returns-then-ones c = rw c.if-ones.true

pub returns-else-ones : goal.returns-else-ones
unfolding val
returns-else-ones c = rw c.if-ones.false
