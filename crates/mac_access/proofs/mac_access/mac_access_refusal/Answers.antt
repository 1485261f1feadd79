use mathlib.Core.Path.{◌∙◌}
use Rattle.mac_access.specs.MacAccess.{mac_access_refusal}
use Rattle.mac_access.proofs.mac_access.mac_access_refusal.Goals as goal

pub returns : goal.returns
unfolding mac_access_refusal
returns c = c.uplink_refusal.ensures ∙ rw c.option_refusal.ensures
