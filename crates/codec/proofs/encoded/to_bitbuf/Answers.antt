use Rattle.codec.proofs.Laws.Encoded.{encoded_written}
use Rattle.codec.proofs.encoded.to_bitbuf.Goals as goal

pub returns : goal.returns
returns g c = encoded_written _ _ c.of.ensures c.write.ensures
