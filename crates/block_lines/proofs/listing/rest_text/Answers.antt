use Rattle.text.specs.Laws.Puts.{then}
use Rattle.block_lines.proofs.listing.rest_text.Goals as goal

pub returns : goal.returns
returns c = then c.word.ensures (then c.space_number.ensures c.byte.ensures)
