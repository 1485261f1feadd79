use native.Mathlib.Omega.{arith}
use borrow.Author.Tests.{ne_eqb}
use Rattle.access_assign.specs.AccessAssign.{access_assign_of}
use Rattle.access_assign.specs.Laws.Usage.{ul_found, ul_missing}
use Rattle.access_assign.proofs.access_assign.access_assign_of.Goals as goal

pub returns-in-Some : goal.returns-in-Some
unfolding access_assign_of
returns-in-Some c = λ rest n.
    let h = c.args.header in
    let u = ul_found _ c.from_usage_marker-in_default.ensures c.in-Some.is in
    rw (ne_eqb h 0 (omega arith), ne_eqb h 1 (omega arith), ne_eqb h 2 (omega arith), u.0, u.1, c.from_usage_marker-in-Some.ensures)

pub returns-in-None : goal.returns-in-None
unfolding access_assign_of
returns-in-None c = λ rest n.
    let h = c.args.header in
    let u = ul_missing _ c.from_usage_marker-in_default.ensures c.in-None.is in
    rw (ne_eqb h 0 (omega arith), ne_eqb h 1 (omega arith), ne_eqb h 2 (omega arith), u)
