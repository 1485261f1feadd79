use native.Mathlib.Omega.{arith}
use Rattle.mac_data.specs.MacData.{mac_data_size}
use Rattle.mac_data.proofs.mac_data.mac_data_size.Goals as goal

pub returns : goal.returns
unfolding mac_data_size
returns c = (rw c.uplink_size.ensures.0, omega arith)
