use mathlib.Core.List.{append_assoc}
use Rattle.text.specs.Laws.Puts.{then, reads}
use Rattle.block_lines.specs.Line.{line_text}
use Rattle.block_lines.proofs.line.resource_text.Goals as goal

pub returns : goal.returns
unfolding line_text
returns c =
    reads (simp append_assoc)
    (then c.number.ensures
    (then c.word.ensures
    (then c.space_number.ensures (then c.address_text.ensures (then c.space_number-2.ensures c.byte.ensures)))))
