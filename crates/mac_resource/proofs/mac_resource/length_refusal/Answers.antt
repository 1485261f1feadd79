use mathlib.Core.Path.{sym, ◌∙◌}
use Rattle.mac_resource.specs.MacResource.{length_refusal}
use Rattle.mac_resource.proofs.mac_resource.length_refusal.Goals as goal

pub returns-then-is_null_pdu : goal.returns-then-is_null_pdu
unfolding length_refusal
returns-then-is_null_pdu c = rw (sym c.is_null_pdu.ensures ∙ c.if-is_null_pdu.true)

pub returns : goal.returns
unfolding length_refusal
returns c =
    rw (sym c.is_null_pdu.ensures ∙ c.if-is_null_pdu.false) c.allocation_len_refusal.ensures
