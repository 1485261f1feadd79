use mathlib.Core.Path.{sym, ap, ◌∙◌}
use native.Mathlib.Omega.{arith}
use Rattle.mac_resource.specs.Address.{address_len}
use Rattle.optional_elements.specs.Elements.{elements_len}
use Rattle.mac_resource.specs.MacResource.{header_len}
use Rattle.mac_resource.proofs.mac_resource.header_len.Goals as goal

pub returns-then-is_null : goal.returns-then-is_null
unfolding header_len
returns-then-is_null c =
    let n = c.address_len-n.ensures.0 ∙ ap address_len c.of.ensures in
    rw (sym c.is_null.ensures ∙ c.if-is_null.true, ← n) (omega arith, omega arith)

pub returns : goal.returns
unfolding header_len
returns c =
    let n = c.address_len-n.ensures.0 ∙ ap address_len c.of.ensures in
    let e = c.elements_len.ensures.0 ∙ ap elements_len c.elements_of.ensures in
    rw (sym c.is_null.ensures ∙ c.if-is_null.false, ← n, ← e) (omega arith, omega arith)
