use native.Mathlib.Omega.{arith}
use Rattle.optional_elements.specs.GrantAndAllocation.{grant_and_allocation_bits}
use Rattle.optional_elements.specs.Laws.SlotGranting.{granting-bounds}
use Rattle.optional_elements.specs.Laws.Allocation.{allocation-bounds}
use Rattle.optional_elements.specs.Laws.GrantAndAllocation.{grant_and_allocation-told}
use Rattle.codec.proofs.Laws.Piece.{join_holds}
use Rattle.optional_elements.proofs.grant_and_allocation.grant_and_allocation_piece.Goals as goal

pub joined-requires : goal.joined-requires
joined-requires c =
    let g = c.granting_piece.ensures in
    let a = c.allocation_piece.ensures in
    let e = c.args.e in
    (g.small, a.small, omega (arith, g.size, a.size, (granting-bounds e.slot_granting_element).1, (allocation-bounds e.chan_alloc_element).1))

pub returns : goal.returns
unfolding grant_and_allocation_bits
returns c =
    join_holds c.granting_piece.ensures c.allocation_piece.ensures c.joined.ensures

pub granting_piece-requires : goal.granting_piece-requires
granting_piece-requires c = (grant_and_allocation-told c.args.e c.requires).0

pub allocation_piece-requires : goal.allocation_piece-requires
allocation_piece-requires c = (grant_and_allocation-told c.args.e c.requires).1
