use Rattle.codec.proofs.Laws.Piece.{row_holds}
use Rattle.tetra_fields.specs.Laws.UplinkHead.{allowed, uplink_joined}
use Rattle.mac_data.specs.MacData.{head_of, mac_data_row, mac_data_size, mac_data_refusal}
use Rattle.mac_data.proofs.mac_data.MacDataEncode.word.Goals as goal

pub uplink_word-head-requires : goal.uplink_word-head-requires
unfolding mac_data_refusal
uplink_word-head-requires c = (allowed _ _ _ c.requires).address

pub option_word-requires : goal.option_word-requires
unfolding mac_data_refusal
option_word-requires c = (allowed _ _ _ c.requires).fields

pub returns : goal.returns
unfolding mac_data_row mac_data_size
returns c = row_holds (uplink_joined 2 (head_of c.args.self) c.uplink_word-head.ensures.0 c.option_word.ensures)
