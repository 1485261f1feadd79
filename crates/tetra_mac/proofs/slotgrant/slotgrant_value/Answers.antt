use Rattle.tetra_mac.specs.Slotgrant.{slotgrant_value}
use Rattle.tetra_mac.proofs.slotgrant.slotgrant_value.Goals as goal

pub returns : goal.returns
unfolding slotgrant_value
returns c = rw (c.delay_value.ensures, c.number8.ensures, c.from_raw.ensures)
