use Rattle.tetra_core.specs.Refusal.{first_last, stopped, went_on}
use Rattle.mac_resource.proofs.address.pair_refusal.Goals as goal

pub returns-in_err-too_wide : goal.returns-in_err-too_wide
returns-in_err-too_wide c = stopped c.from_residual.result _ c.too_wide.ensures c.in_err-too_wide.was c.from_residual.ensures.1

pub returns : goal.returns
returns c = rw (went_on _ c.too_wide.ensures c.in_ok-too_wide.was, first_last) c.too_wide-2.ensures
