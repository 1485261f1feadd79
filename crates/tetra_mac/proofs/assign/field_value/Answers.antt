use Rattle.tetra_mac.specs.AccessAssign.{field_value}
use Rattle.tetra_mac.proofs.assign.field_value.Goals as goal

pub returns : goal.returns
unfolding field_value
returns c = rw (c.from_raw.ensures, c.from_raw-2.ensures)
