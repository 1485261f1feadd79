use Rattle.std.proofs.Math.Nat.{add-sub_cancel}
use borrow.Author.Tests.{eq-eqb, ne_eqb}
use Rattle.tetra_resource.specs.MacResource.{element_known}
use Rattle.tetra_resource.proofs.element_known.Goals as goal

pub returns-then-words-eq0 : goal.returns-then-words-eq0
unfolding element_known
returns-then-words-eq0 g c = rw (eq-eqb _ 0 c.if-words-eq0.true)

pub returns : goal.returns
unfolding element_known
returns g c = rw (c.known.ensures, ne_eqb _ 0 c.if-words-eq0.false, add-sub_cancel g.row.N 1)
