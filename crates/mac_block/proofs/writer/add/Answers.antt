use Rattle.codec.proofs.Laws.Encoded.{settable}
use Rattle.block_rules.specs.Downlink.{downlink_writer}
use Rattle.block_rules.proofs.Laws.Downlink.{length<64}
use Rattle.mac_block.specs.Laws.Added.{header-added}
use Rattle.mac_block.proofs.writer.add.Goals as goal

pub returns : goal.returns
returns c =
    header-added downlink_writer _ c.encode_to_add-e.ensures (length<64 _) _ _ _ _ c.add_encoded.ensures

pub add_encoded-requires : goal.add_encoded-requires
add_encoded-requires c = settable c.encode_to_add-e.ensures
