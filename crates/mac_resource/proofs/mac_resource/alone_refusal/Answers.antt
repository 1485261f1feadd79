use mathlib.Core.Path.{refl}
use borrow.Author.Tests.{eq-eqb, ne_eqb}
use Rattle.tetra_core.specs.Refusal.{first, first_skip, first_last}
use Rattle.mac_resource.specs.MacResource.{alone_refusal}
use Rattle.mac_resource.proofs.mac_resource.alone_refusal.Goals as goal

pub returns-then-h-eq0 : goal.returns-then-h-eq0
unfolding alone_refusal first
returns-then-h-eq0 c = rw (eq-eqb _ 0 c.if-h-eq0.true)

pub returns : goal.returns
unfolding alone_refusal
returns c = rw (ne_eqb _ 0 c.if-h-eq0.false, first_skip 0 _ refl, first_last) c.null_refusal.ensures
