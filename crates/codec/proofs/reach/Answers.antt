use Rattle.std.proofs.Common.{arith}
use Rattle.codec.proofs.Laws.Words.{short_stop, short_more, short-end}
use Rattle.codec.proofs.reach.Goals as goal

pub returns-then-left-at : goal.returns-then-left-at
returns-then-left-at c = (grind (arith, short_stop), c.loop-width.invariant.0)

pub loop-width-preserved : goal.loop-width-preserved
loop-width-preserved c = (omega arith, grind (arith, short_more))

pub returns : goal.returns
returns c = (grind (arith, short-end), c.loop-width.invariant.0)
