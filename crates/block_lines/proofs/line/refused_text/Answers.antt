use native.Mathlib.Omega.{arith}
use Rattle.text.specs.Laws.Puts.{then, wider}
use Rattle.block_lines.specs.Line.{line_text}
use Rattle.block_lines.specs.Most.{line_most}
use Rattle.block_lines.proofs.line.refused_text.Goals as goal

pub returns : goal.returns
unfolding line_text
returns c =
    wider line_most (omega arith)
    (then c.number.ensures (then c.word.ensures (then (rw c.number-2.ensures at c.space_number.ensures) (then c.space_number-2.ensures c.byte.ensures))))
