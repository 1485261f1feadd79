use native.Mathlib.Omega.{arith}
use Rattle.optional_elements.specs.Laws.SlotGranting.{granting-bounds, granting-optional}
use Rattle.optional_elements.proofs.slot_granting.granting_piece.Goals as goal

pub flagged-requires : goal.flagged-requires
flagged-requires c =
    let o = granting-optional c.args.g in
    (rw o.refusal c.requires, rw o.size (omega (arith, (granting-bounds c.args.g).1)))

pub returns : goal.returns
returns c =
    let o = granting-optional c.args.g in
    rw (o.bits, o.size) at c.flagged.ensures
