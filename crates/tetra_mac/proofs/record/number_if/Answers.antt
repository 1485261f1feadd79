use borrow.Author.Tests.{eq-eqb, ne_eqb}
use Rattle.tetra_mac.specs.Reply.{number_if}
use Rattle.tetra_mac.proofs.record.number_if.Goals as goal

pub returns-then-present-eq0 : goal.returns-then-present-eq0
unfolding number_if
returns-then-present-eq0 c = rw (eq-eqb _ _ c.if-present-eq0.true)

pub returns : goal.returns
unfolding number_if
returns c = rw (ne_eqb _ _ c.if-present-eq0.false)
