use Rattle.codec.proofs.Laws.Cases.{last_case}
use Rattle.tetra_mac.specs.AccessAssign.{assigns, assign_value}
use Rattle.tetra_mac.proofs.assign.AccessAssignRecordWORDS.value.Goals as goal

pub returns-in-0 : goal.returns-in-0
unfolding assign_value
returns-in-0 c = rw (c.field_value.ensures, c.field_value-in-0.ensures, c.in-0.is)

pub returns-in-1 : goal.returns-in-1
unfolding assign_value
returns-in-1 c = rw (c.dl_value.ensures, c.field_value-in-1.ensures, c.in-1.is)

pub returns-in-2 : goal.returns-in-2
unfolding assign_value
returns-in-2 c = rw (c.dl_value-in-2.ensures, c.field_value-in-2.ensures, c.in-2.is)

pub returns-in_default : goal.returns-in_default
unfolding assign_value
returns-in_default c = rw (c.dl_value-in_default.ensures, c.ul_value.ensures) (last_case (assigns _ _ _ _) _ _ c.in_default.in_default-own.rest)
