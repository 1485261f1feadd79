use Rattle.tetra_core.specs.Refusal.{first_last, stopped, went_on}
use Rattle.tetra_fields.specs.UplinkHead.{uplink_refusal}
use Rattle.tetra_fields.proofs.fields.uplink_head.uplink_refusal.Goals as goal

pub returns-in_err-encryption_refusal : goal.returns-in_err-encryption_refusal
unfolding uplink_refusal
returns-in_err-encryption_refusal c =
    stopped c.from_residual.result _ c.encryption_refusal.ensures c.in_err-encryption_refusal.was c.from_residual.ensures.1

pub returns-in_err-uplink_address_refusal : goal.returns-in_err-uplink_address_refusal
unfolding uplink_refusal
returns-in_err-uplink_address_refusal c =
    rw (went_on _ c.encryption_refusal.ensures c.in_ok-encryption_refusal.was)
    (stopped c.from_residual-in_err-uplink_address_refusal.result _ c.uplink_address_refusal.ensures c.in_err-uplink_address_refusal.was
    c.from_residual-in_err-uplink_address_refusal.ensures.1)

pub returns : goal.returns
unfolding uplink_refusal
returns c =
    rw (
      went_on _ c.encryption_refusal.ensures c.in_ok-encryption_refusal.was,
      went_on _ c.uplink_address_refusal.ensures c.in_ok-uplink_address_refusal.was,
      first_last,
    )
