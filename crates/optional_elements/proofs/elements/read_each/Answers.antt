use Rattle.optional_elements.specs.PowerControl.{read_power}
use native.Mathlib.Omega.{arith}
use Rattle.std.proofs.lemmas.Result.{err_from_is_err_and}
use Rattle.codec.proofs.Laws.Ahead.{on-from}
use Rattle.optional_elements.specs.GrantAndAllocation.{grant_and_allocation_most, read_grant_and_allocation}
use Rattle.optional_elements.specs.Elements.{elements_most, read_elements}
use Rattle.optional_elements.proofs.Parts.{first_refused, second_refused, both_read}
use Rattle.optional_elements.proofs.elements.read_each.Goals as goal

pub returns-in_err-behind : goal.returns-in_err-behind
unfolding read_elements
returns-in_err-behind c =
    let d = err_from_is_err_and c.from_residual.result c.from_residual.ensures.1 in
    rw (d.1, d.2) (first_refused read_power read_grant_and_allocation (λ p b. record { power_control_element = p; grant_and_allocation = b }) elements_most c.read_power.ensures c.in_err-behind.was)

pub read_grant_and_allocation-requires : goal.read_grant_and_allocation-requires
read_grant_and_allocation-requires c = (on-from c.read_power.ensures c.in_ok-behind.was).ready grant_and_allocation_most c.requires

pub returns-in_err-after : goal.returns-in_err-after
unfolding read_elements
returns-in_err-after c =
    let d = err_from_is_err_and c.from_residual-in_err-after.result c.from_residual-in_err-after.ensures.1 in
    rw (d.1, d.2) (second_refused read_power read_grant_and_allocation (λ p b. record { power_control_element = p; grant_and_allocation = b }) elements_most c.read_power.ensures c.in_ok-behind.was c.read_grant_and_allocation.ensures c.in_err-after.was)

pub returns : goal.returns
unfolding read_elements
returns c = both_read read_power read_grant_and_allocation (λ p b. record { power_control_element = p; grant_and_allocation = b }) elements_most c.read_power.ensures c.in_ok-behind.was c.read_grant_and_allocation.ensures c.in_ok-after.was (omega arith)
