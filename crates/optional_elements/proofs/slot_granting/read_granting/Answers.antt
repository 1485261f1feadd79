use Rattle.tetra_fields.specs.BasicSlotgrant.{slotgrant_size, read_slotgrant}
use Rattle.optional_elements.specs.SlotGranting.{read_granting}
use Rattle.optional_elements.proofs.slot_granting.read_granting.Goals as goal

pub returns : goal.returns
unfolding read_granting
returns c = c.read_optional.ensures read_slotgrant slotgrant_size (λ r e. e.1)
