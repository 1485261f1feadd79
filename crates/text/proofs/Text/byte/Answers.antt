use Rattle.std.proofs.Common.{refl}
use Rattle.text.specs.Laws.Puts.{put_one, put-none}
use Rattle.text.proofs.Text.byte.Goals as goal

pub returns-then-self : goal.returns-then-self
returns-then-self c = record { same = refl; there = put_one _ _ _ c.if-self.true }

pub returns-else-self : goal.returns-else-self
returns-else-self c = record { same = refl; there = put-none _ _ _ c.if-self.false }
