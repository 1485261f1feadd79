use Rattle.mac_resource.specs.MacResource.{front_bits}
use Rattle.codec.proofs.Laws.Piece.{join_holds}
use Rattle.mac_resource.proofs.mac_resource.front_piece.Goals as goal

pub returns : goal.returns
unfolding front_bits
returns c =
    rw (← c.fixed_of.ensures) (join_holds c.fixed_piece.ensures c.requires.1 c.joined.ensures)
