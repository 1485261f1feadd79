use Rattle.tetra_core.specs.Refusal.{first_last, stopped, went_on}
use Rattle.optional_elements.specs.Elements.{elements_refusal}
use Rattle.optional_elements.proofs.elements.elements_refusal.Goals as goal

pub returns-in_err-power_refusal : goal.returns-in_err-power_refusal
unfolding elements_refusal
returns-in_err-power_refusal c =
    stopped c.from_residual.result _ c.power_refusal.ensures c.in_err-power_refusal.was c.from_residual.ensures.1

pub returns : goal.returns
unfolding elements_refusal
returns c = rw (went_on _ c.power_refusal.ensures c.in_ok-power_refusal.was, first_last) c.grant_and_allocation_refusal.ensures
