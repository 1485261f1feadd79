use Rattle.tetra_core.specs.Refusal.{first_last, stopped, went_on}
use Rattle.access_assign.proofs.access_assign.access_assign_refusal.Goals as goal

pub returns-in_err-usage_refusal-in-DownlinkDefinedUplinkDefined : goal.returns-in_err-usage_refusal-in-DownlinkDefinedUplinkDefined
returns-in_err-usage_refusal-in-DownlinkDefinedUplinkDefined c =
    rw c.in-DownlinkDefinedUplinkDefined.is
    (stopped c.from_residual.result _ c.usage_refusal-in-DownlinkDefinedUplinkDefined.ensures c.in_err-usage_refusal-in-DownlinkDefinedUplinkDefined.was c.from_residual.ensures.1)

pub returns-in_ok-usage_refusal-in-DownlinkDefinedUplinkDefined : goal.returns-in_ok-usage_refusal-in-DownlinkDefinedUplinkDefined
returns-in_ok-usage_refusal-in-DownlinkDefinedUplinkDefined c =
    rw (c.in-DownlinkDefinedUplinkDefined.is, went_on _ c.usage_refusal-in-DownlinkDefinedUplinkDefined.ensures c.in_ok-usage_refusal-in-DownlinkDefinedUplinkDefined.was, first_last)
    c.usage_refusal-in-DownlinkDefinedUplinkDefined-2.ensures
