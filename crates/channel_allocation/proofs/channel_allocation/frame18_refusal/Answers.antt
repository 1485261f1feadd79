use native.Mathlib.Omega.{arith}
use borrow.Author.Tests.{eq-eqb, ne_eqb, lt-ltb, le-ltb}
use Rattle.channel_allocation.specs.ChannelAllocation.{frame18_refusal}
use Rattle.channel_allocation.proofs.channel_allocation.frame18_refusal.Goals as goal

pub returns-then-mon_pattern-ne0 : goal.returns-then-mon_pattern-ne0
unfolding frame18_refusal
returns-then-mon_pattern-ne0 c = rw (ne_eqb _ _ c.if-mon_pattern-ne0.true)

pub returns-then-v-gt3 : goal.returns-then-v-gt3
unfolding frame18_refusal
returns-then-v-gt3 c = rw (eq-eqb _ _ c.if-mon_pattern-ne0.false, c.in-Some.is, le-ltb c.in-Some.v 4 (omega arith))

pub returns-in-None : goal.returns-in-None
unfolding frame18_refusal
returns-in-None c = rw (eq-eqb _ _ c.if-mon_pattern-ne0.false, c.in-None.is)

pub returns-else-v-gt3 : goal.returns-else-v-gt3
unfolding frame18_refusal
returns-else-v-gt3 c = rw (eq-eqb _ _ c.if-mon_pattern-ne0.false, c.in-Some.is, lt-ltb c.in-Some.v 4 (omega arith))
