use lib.Dec.{lit≤}
use borrow.Author.Tests.{eq-eqb, ne_eqb}
use Rattle.tetra_fields.specs.UplinkAddress.{uplink_width}
use Rattle.tetra_fields.proofs.fields.uplink_address.uplink_width.Goals as goal

pub returns-then-kind-eq1 : goal.returns-then-kind-eq1
unfolding uplink_width
returns-then-kind-eq1 c = (rw (eq-eqb _ _ c.if-kind-eq1.true), lit≤ tt, lit≤ tt)

pub returns-else-kind-eq1 : goal.returns-else-kind-eq1
unfolding uplink_width
returns-else-kind-eq1 c = (rw (ne_eqb _ _ c.if-kind-eq1.false), lit≤ tt, lit≤ tt)
