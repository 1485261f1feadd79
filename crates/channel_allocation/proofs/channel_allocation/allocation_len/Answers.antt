use borrow.Author.Rules.{rules}
use borrow.Author.Tests.{eq-eqb, ne_eqb}
use Rattle.channel_allocation.specs.ChannelAllocation.{channel_allocation_len}
use Rattle.channel_allocation.proofs.channel_allocation.allocation_len.Goals as goal

pub returns-then-e-eq0 : goal.returns-then-e-eq0
unfolding channel_allocation_len
returns-then-e-eq0 c = (rw (eq-eqb _ _ c.if-e-eq0.true), search rules)

pub returns-else-e-eq0 : goal.returns-else-e-eq0
unfolding channel_allocation_len
returns-else-e-eq0 c = (rw (ne_eqb _ _ c.if-e-eq0.false), search rules)
