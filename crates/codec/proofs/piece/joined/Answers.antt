use Rattle.codec.proofs.Pieces.{joined_fits, joined_holds}
use Rattle.codec.proofs.piece.joined.Goals as goal

pub overflow_add-result : goal.overflow_add-result
overflow_add-result c = joined_fits c.args.a c.args.b c.requires

pub returns : goal.returns
returns c = joined_holds c.args.a c.args.b c.requires
