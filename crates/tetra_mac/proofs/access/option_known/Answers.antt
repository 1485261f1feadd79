use Rattle.codec.proofs.Laws.Cases.{last_case}
use Rattle.tetra_mac.specs.MacAccess.{option_knowns, option_known}
use Rattle.tetra_mac.proofs.access.option_known.Goals as goal

pub returns-in-0 : goal.returns-in-0
unfolding option_known
returns-in-0 c = rw c.in-0.is

pub returns-in-1 : goal.returns-in-1
unfolding option_known
returns-in-1 c = rw c.in-1.is

pub returns-in-2 : goal.returns-in-2
unfolding option_known
returns-in-2 c = rw c.in-2.is

pub returns-in_default : goal.returns-in_default
unfolding option_known
returns-in_default c = last_case (option_knowns c.args.reservation) _ _ c.in_default.in_default-own.rest
