use Rattle.mac_resource.specs.Laws.Fixed.{fixed-is}
use Rattle.codec.proofs.Laws.Piece.{row_holds}
use Rattle.mac_resource.proofs.fixed.fixed_piece.Goals as goal

pub returns : goal.returns
returns c = rw c.fixed_word.ensures (row_holds (fixed-is c.args.f c.requires))
