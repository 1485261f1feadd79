use Rattle.text.specs.Laws.Puts.{then}
use Rattle.text.proofs.Text.space_number.Goals as goal

pub returns : goal.returns
returns c = then c.byte.ensures c.number.ensures
