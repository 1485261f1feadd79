use Rattle.codec.proofs.Laws.Cases.{last_case}
use Rattle.tetra_mac.specs.AccessAssign.{dl_usages, dl_value}
use Rattle.tetra_mac.proofs.assign.dl_value.Goals as goal

pub returns-in-0 : goal.returns-in-0
unfolding dl_value
returns-in-0 c = rw c.in-0.is

pub returns-in-1 : goal.returns-in-1
unfolding dl_value
returns-in-1 c = rw c.in-1.is

pub returns-in-2 : goal.returns-in-2
unfolding dl_value
returns-in-2 c = rw c.in-2.is

pub returns-in-3 : goal.returns-in-3
unfolding dl_value
returns-in-3 c = rw c.in-3.is

pub returns-in_default : goal.returns-in_default
unfolding dl_value
returns-in_default c = rw c.number8.ensures (last_case dl_usages _ _ c.in_default.in_default-own.rest)
