use Rattle.codec.proofs.Laws.Row.{row_is}
use Rattle.tetra_fields.specs.BasicSlotgrant.{slotgrant_row}
use Rattle.tetra_fields.specs.Laws.BasicSlotgrant.{slotgrant_fits}
use Rattle.tetra_fields.proofs.fields.basic_slotgrant.slotgrant_word.Goals as goal

pub returns : goal.returns
unfolding slotgrant_row
returns c =
    rw (c.into_raw.ensures.0, c.into_raw-2.ensures.0) (row_is (slotgrant_row c.args.g) (slotgrant_fits c.args.g c.requires))
