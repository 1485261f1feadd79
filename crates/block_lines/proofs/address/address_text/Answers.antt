use Rattle.text.specs.Laws.Puts.{then}
use Rattle.block_lines.proofs.address.address_text.Goals as goal

pub returns : goal.returns
returns c =
    then c.case_text.ensures
    (then (rw c.first_number.ensures at c.space_number.ensures)
    (rw c.second_number.ensures at c.second_text.ensures))
