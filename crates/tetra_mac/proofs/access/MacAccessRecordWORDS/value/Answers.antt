use Rattle.tetra_mac.specs.MacAccess.{mac_access_value}
use Rattle.tetra_mac.proofs.access.MacAccessRecordWORDS.value.Goals as goal

pub returns : goal.returns
unfolding mac_access_value
returns c = rw (c.uplink_value.ensures, c.option_value.ensures)
