use mathlib.Core.Bool.{not}
use mathlib.Core.Path.{refl, sym, ap, ◌∙◌}
use Rattle.codec.proofs.Laws.Encoded.{settable}
use Rattle.block_rules.specs.Downlink.{downlink_writer}
use Rattle.block_rules.proofs.Laws.Downlink.{length<64}
use Rattle.mac_block.specs.Laws.Added.{header-added}
use Rattle.tetra_block.specs.Block.{writer_moved}
use Rattle.tetra_mac.specs.Laws.Reply.{write_no_room, record_unknown, record_replied}
use Rattle.tetra_resource.specs.Laws.MacResource.{mac_resource_long}
use Rattle.tetra_block.specs.Laws.{no_length, length-there}
use Rattle.tetra_block.proofs.tetra_block_add.Goals as goal

pub encoded_to_add-header-requires : goal.encoded_to_add-header-requires
encoded_to_add-header-requires c = mac_resource_long _ (sym c.mac_resource_known.ensures ∙ c.if-not-mac_resource_known.false)

pub returns : goal.returns
returns c =
    let l = length-there _ c.args.words.now c.length_of.ensures c.in-Some.is in
    let e = header-added downlink_writer _ c.encoded_to_add-header.ensures (length<64 _) _ _ _ _ c.add_encoded-done.ensures in
    record_replied _ _ _ _ _ (c.mac_resource_known.ensures ∙ l.1) (ap not c.if-not-mac_resource_known.false) c.if-out-lt1.false (rw l.0) (ap (writer_moved _) e.0, e.1) c.writer_moved.ensures

pub returns-then-out-lt1 : goal.returns-then-out-lt1
returns-then-out-lt1 c = write_no_room _ _ _ _ _ c.if-out-lt1.true

pub returns-in_default : goal.returns-in_default
returns-in_default c = record_unknown _ _ _ _ _ (no_length _ c.args.words.now c.length_of.ensures c.in_default.is) refl

pub returns-then-not-mac_resource_known : goal.returns-then-not-mac_resource_known
returns-then-not-mac_resource_known c =
    record_unknown _ _ _ _ _ (c.mac_resource_known.ensures ∙ (length-there _ c.args.words.now c.length_of.ensures c.in-Some.is).1) (ap not c.if-not-mac_resource_known.true)

pub add_encoded-done-requires : goal.add_encoded-done-requires
add_encoded-done-requires c = settable c.encoded_to_add-header.ensures
