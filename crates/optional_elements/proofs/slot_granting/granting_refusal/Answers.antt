use Rattle.optional_elements.specs.Laws.SlotGranting.{granting-optional}
use Rattle.optional_elements.proofs.slot_granting.granting_refusal.Goals as goal

pub returns : goal.returns
returns c = rw (granting-optional c.args.g).refusal c.refusal.ensures
