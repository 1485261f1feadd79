use Rattle.codec.proofs.Laws.Cases.{last_case}
use Rattle.tetra_mac.specs.MacAccess.{options, option_value}
use Rattle.tetra_mac.proofs.access.option_value.Goals as goal

pub returns-in-0 : goal.returns-in-0
unfolding option_value
returns-in-0 c = rw c.in-0.is

pub returns-in-1 : goal.returns-in-1
unfolding option_value
returns-in-1 c = rw (c.number8.ensures, c.in-1.is)

pub returns-in_default : goal.returns-in_default
unfolding option_value
returns-in_default c = rw c.from_raw.ensures (last_case (options _) _ _ c.in_default.in_default-own.rest)
