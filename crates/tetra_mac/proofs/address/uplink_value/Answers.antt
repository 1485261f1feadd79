use Rattle.codec.proofs.Laws.Cases.{last_case}
use Rattle.tetra_mac.specs.Address.{uplinks, uplink_value}
use Rattle.tetra_mac.proofs.address.uplink_value.Goals as goal

pub returns-in-0 : goal.returns-in-0
unfolding uplink_value
returns-in-0 c = rw (c.number32.ensures, c.ssi_of_kind.ensures, c.in-0.is)

pub returns-in-1 : goal.returns-in-1
unfolding uplink_value
returns-in-1 c = rw (c.number16.ensures, c.in-1.is)

pub returns-in-2 : goal.returns-in-2
unfolding uplink_value
returns-in-2 c = rw (c.number32-in-2.ensures, c.in-2.is)

pub returns-in_default : goal.returns-in_default
unfolding uplink_value
returns-in_default c = rw c.number32-in_default.ensures (last_case (uplinks _ _) _ _ c.in_default.in_default-own.rest)
