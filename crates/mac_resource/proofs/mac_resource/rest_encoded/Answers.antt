use mathlib.Core.Path.{sym, ◌∙◌}
use Rattle.mac_resource.specs.Laws.Encoded.{null-encodes}
use Rattle.mac_resource.proofs.mac_resource.rest_encoded.Goals as goal

pub returns-then-is_null_pdu : goal.returns-then-is_null_pdu
returns-then-is_null_pdu c = null-encodes c.args.h (sym c.is_null_pdu.ensures ∙ c.if-is_null_pdu.true)
