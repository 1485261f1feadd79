use Rattle.text.specs.Laws.Puts.{put_nothing, put_more}
use Rattle.text.proofs.Text.word.Goals as goal

pub loop-b-init : goal.loop-b-init
loop-b-init c = put_nothing _

pub loop-b-preserved : goal.loop-b-preserved
loop-b-preserved c = put_more _ c.loop-b-test.true c.loop-b.invariant c.byte.ensures
