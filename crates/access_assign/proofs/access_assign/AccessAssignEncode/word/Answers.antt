use Rattle.codec.proofs.Laws.Piece.{row_holds}
use Rattle.codec.proofs.Laws.Row.{row_is}
use Rattle.access_assign.specs.AccessAssign.{access_assign_row}
use Rattle.access_assign.specs.Laws.AccessAssign.{access_assign_fits}
use Rattle.access_assign.proofs.access_assign.AccessAssignEncode.word.Goals as goal

pub returns : goal.returns
unfolding access_assign_row
returns c =
    rw (c.header_number.ensures.0, c.field_one.ensures.0, c.field_two.ensures.0)
    (row_holds (row_is (access_assign_row c.args.self) (access_assign_fits c.args.self c.requires)))
