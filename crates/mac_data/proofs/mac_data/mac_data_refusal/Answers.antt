use mathlib.Core.Path.{◌∙◌}
use Rattle.mac_data.specs.MacData.{mac_data_refusal}
use Rattle.mac_data.proofs.mac_data.mac_data_refusal.Goals as goal

pub returns : goal.returns
unfolding mac_data_refusal
returns c = c.uplink_refusal.ensures ∙ rw c.option_refusal.ensures
