use Rattle.codec.proofs.Laws.Cases.{last_case}
use Rattle.tetra_mac.specs.Address.{addresses, address_value}
use Rattle.tetra_mac.proofs.address.address_value.Goals as goal

pub returns-in-0 : goal.returns-in-0
unfolding address_value
returns-in-0 c = rw c.in-0.is

pub returns-in-1 : goal.returns-in-1
unfolding address_value
returns-in-1 c = rw (c.number32.ensures, c.ssi_of_kind.ensures, c.in-1.is)

pub returns-in-2 : goal.returns-in-2
unfolding address_value
returns-in-2 c = rw (c.number16.ensures, c.in-2.is)

pub returns-in-3 : goal.returns-in-3
unfolding address_value
returns-in-3 c = rw (c.number32-in-3.ensures, c.in-3.is)

pub returns-in-4 : goal.returns-in-4
unfolding address_value
returns-in-4 c = rw (c.number32-in-4.ensures, c.in-4.is)

pub returns-in-5 : goal.returns-in-5
unfolding address_value
returns-in-5 c = rw (c.number16-in-5.ensures, c.number32-in-5.ensures, c.ssi_of_kind-in-5.ensures, c.in-5.is)

pub returns-in-6 : goal.returns-in-6
unfolding address_value
returns-in-6 c = rw (c.number8.ensures, c.number32-in-6.ensures, c.ssi_of_kind-in-6.ensures, c.in-6.is)

pub returns-in_default : goal.returns-in_default
unfolding address_value
returns-in_default c = rw (c.number16-in_default.ensures, c.number32-in_default.ensures) (last_case (addresses _ _ _) _ _ c.in_default.in_default-own.rest)
