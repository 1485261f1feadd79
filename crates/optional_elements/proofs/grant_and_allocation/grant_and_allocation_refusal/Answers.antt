use Rattle.tetra_core.specs.Refusal.{first_last, stopped, went_on}
use Rattle.optional_elements.specs.GrantAndAllocation.{grant_and_allocation_refusal}
use Rattle.optional_elements.proofs.grant_and_allocation.grant_and_allocation_refusal.Goals as goal

pub returns-in_err-granting_refusal : goal.returns-in_err-granting_refusal
unfolding grant_and_allocation_refusal
returns-in_err-granting_refusal c =
    stopped c.from_residual.result _ c.granting_refusal.ensures c.in_err-granting_refusal.was c.from_residual.ensures.1

pub returns : goal.returns
unfolding grant_and_allocation_refusal
returns c = rw (went_on _ c.granting_refusal.ensures c.in_ok-granting_refusal.was, first_last) c.allocation_refusal.ensures
