use Rattle.codec.proofs.Laws.Cases.{last_case}
use Rattle.tetra_mac.specs.Address.{ssi_kinds, ssi_of_kind}
use Rattle.tetra_mac.proofs.address.ssi_of_kind.Goals as goal

pub returns-in-0 : goal.returns-in-0
unfolding ssi_of_kind
returns-in-0 c = rw c.in-0.is

pub returns-in-1 : goal.returns-in-1
unfolding ssi_of_kind
returns-in-1 c = rw c.in-1.is

pub returns-in_default : goal.returns-in_default
unfolding ssi_of_kind
returns-in_default c = last_case ssi_kinds _ _ c.in_default.in_default-own.rest
