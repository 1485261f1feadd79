use native.Mathlib.Omega.{arith}
use Rattle.optional_elements.specs.Elements.{elements_bits}
use Rattle.optional_elements.specs.Laws.PowerControl.{power-bounds}
use Rattle.optional_elements.specs.Laws.GrantAndAllocation.{grant_and_allocation-bounds}
use Rattle.optional_elements.specs.Laws.Elements.{elements-told}
use Rattle.codec.proofs.Laws.Piece.{join_holds}
use Rattle.optional_elements.proofs.elements.elements_piece.Goals as goal

pub joined-requires : goal.joined-requires
joined-requires c =
    let p = c.power_piece.ensures in
    let b = c.grant_and_allocation_piece-behind.ensures in
    let e = c.args.e in
    (p.small, b.small, omega (arith, p.size, b.size, (power-bounds e.power_control_element).1, (grant_and_allocation-bounds e.grant_and_allocation).1))

pub returns : goal.returns
unfolding elements_bits
returns c =
    join_holds c.power_piece.ensures c.grant_and_allocation_piece-behind.ensures c.joined.ensures

pub grant_and_allocation_piece-behind-requires : goal.grant_and_allocation_piece-behind-requires
grant_and_allocation_piece-behind-requires c = (elements-told c.args.e c.requires).1

pub power_piece-requires : goal.power_piece-requires
power_piece-requires c = (elements-told c.args.e c.requires).0
