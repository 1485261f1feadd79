use Rattle.codec.proofs.Laws.Cases.{last_case}
use Rattle.tetra_mac.specs.Slotgrant.{delays, delay_value}
use Rattle.tetra_mac.proofs.slotgrant.delay_value.Goals as goal

pub returns-in-0 : goal.returns-in-0
unfolding delay_value
returns-in-0 c = rw c.in-0.is

pub returns-in-1 : goal.returns-in-1
unfolding delay_value
returns-in-1 c = rw c.in-1.is

pub returns-in-2 : goal.returns-in-2
unfolding delay_value
returns-in-2 c = rw c.in-2.is

pub returns-in_default : goal.returns-in_default
unfolding delay_value
returns-in_default c = last_case (delays _) _ _ c.in_default.in_default-own.rest
