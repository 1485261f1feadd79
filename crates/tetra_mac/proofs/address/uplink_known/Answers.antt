use Rattle.codec.proofs.Laws.Cases.{last_case}
use Rattle.tetra_mac.specs.Address.{uplink_knowns, uplink_known}
use Rattle.tetra_mac.proofs.address.uplink_known.Goals as goal

pub returns-in-0 : goal.returns-in-0
unfolding uplink_known
returns-in-0 c = rw c.in-0.is

pub returns-in-1 : goal.returns-in-1
unfolding uplink_known
returns-in-1 c = rw c.in-1.is

pub returns-in-2 : goal.returns-in-2
unfolding uplink_known
returns-in-2 c = rw c.in-2.is

pub returns-in-3 : goal.returns-in-3
unfolding uplink_known
returns-in-3 c = rw c.in-3.is

pub returns-in_default : goal.returns-in_default
unfolding uplink_known
returns-in_default c = last_case (uplink_knowns c.args.kind) _ _ c.in_default.in_default-own.rest
