use native.Mathlib.Omega.{arith}
use Rattle.optional_elements.specs.Laws.Allocation.{allocation-bounds, allocation-optional}
use Rattle.optional_elements.proofs.allocation.allocation_piece.Goals as goal

pub flagged-requires : goal.flagged-requires
flagged-requires c =
    let o = allocation-optional c.args.a in
    (rw o.refusal c.requires, rw o.size (omega (arith, (allocation-bounds c.args.a).1)))

pub returns : goal.returns
returns c =
    let o = allocation-optional c.args.a in
    rw (o.bits, o.size) at c.flagged.ensures
