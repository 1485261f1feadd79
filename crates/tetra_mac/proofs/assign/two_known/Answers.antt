use borrow.Author.Tests.{eq-eqb, ne_eqb}
use Rattle.tetra_mac.specs.AccessAssign.{two_known}
use Rattle.tetra_mac.proofs.assign.two_known.Goals as goal

pub returns-then-header-eq3 : goal.returns-then-header-eq3
unfolding two_known
returns-then-header-eq3 c = rw (eq-eqb _ _ c.if-header-eq3.true)

pub returns : goal.returns
unfolding two_known
returns c = rw (c.field_known.ensures, ne_eqb _ _ c.if-header-eq3.false)
