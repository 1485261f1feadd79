use Rattle.codec.proofs.Laws.Cases.{last_case}
use Rattle.tetra_mac.specs.AccessAssign.{one_knowns, one_known}
use Rattle.tetra_mac.proofs.assign.one_known.Goals as goal

pub returns-in-0 : goal.returns-in-0
unfolding one_known
returns-in-0 c = rw (c.field_known.ensures, c.in-0.is)

pub returns-in-1 : goal.returns-in-1
unfolding one_known
returns-in-1 c = rw c.in-1.is

pub returns-in-2 : goal.returns-in-2
unfolding one_known
returns-in-2 c = rw c.in-2.is

pub returns-in-3 : goal.returns-in-3
unfolding one_known
returns-in-3 c = rw c.in-3.is

pub returns-in_default : goal.returns-in_default
unfolding one_known
returns-in_default c = let a = c.args in last_case (one_knowns a.a a.b) _ _ c.in_default.in_default-own.rest
