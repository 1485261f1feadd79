use mathlib.Core.Path.{refl}
use Rattle.optional_elements.specs.Laws.SlotGranting.{granting-bounds, granting-optional}
use Rattle.optional_elements.proofs.slot_granting.granting_len.Goals as goal

pub returns : goal.returns
returns c =
    let o = granting-optional c.args.g in
    rw (c.len.ensures, o.size) (refl, (granting-bounds c.args.g).1)
