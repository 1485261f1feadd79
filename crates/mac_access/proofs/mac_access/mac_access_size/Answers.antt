use native.Mathlib.Omega.{arith}
use Rattle.mac_access.specs.MacAccess.{mac_access_size}
use Rattle.mac_access.proofs.mac_access.mac_access_size.Goals as goal

pub returns : goal.returns
unfolding mac_access_size
returns c = (rw (c.uplink_size.ensures.0, c.option_size.ensures.0), omega arith)
