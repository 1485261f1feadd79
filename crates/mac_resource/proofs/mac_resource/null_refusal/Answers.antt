use mathlib.Core.Bool.{true}
use mathlib.Core.Path.{◌≡◌, sym, ◌∙◌}
use borrow.Author.Tests.{eq-eqb, ne_eqb}
use Rattle.tetra_core.specs.Refusal.{first}
use Rattle.mac_resource.specs.Address.{is_null}
use Rattle.mac_resource.specs.MacResource.{null_refusal}
use Rattle.mac_resource.proofs.mac_resource.null_refusal.Goals.{Else-not-is_null_pdu}
use Rattle.mac_resource.proofs.mac_resource.null_refusal.Goals as goal

null : (c : Else-not-is_null_pdu) → is_null c.args.h.addr ≡ true
null c = sym c.is_null_pdu.ensures ∙ c.if-not-is_null_pdu.false

pub returns-then-not-is_null_pdu : goal.returns-then-not-is_null_pdu
unfolding null_refusal
returns-then-not-is_null_pdu c = rw (sym c.is_null_pdu.ensures ∙ c.if-not-is_null_pdu.true)

pub returns-then-h : goal.returns-then-h
unfolding null_refusal first
returns-then-h c = rw (null (goal.at.returns-then-h c).Else-not-is_null_pdu, c.if-h.true)

pub returns-then-h-ne0 : goal.returns-then-h-ne0
unfolding null_refusal first
returns-then-h-ne0 c = rw (null (goal.at.returns-then-h-ne0 c).Else-not-is_null_pdu, c.if-h.false, ne_eqb _ _ c.if-h-ne0.true)

pub returns-then-h-ne0-2 : goal.returns-then-h-ne0-2
unfolding null_refusal first
returns-then-h-ne0-2 c =
    rw (null (goal.at.returns-then-h-ne0-2 c).Else-not-is_null_pdu, c.if-h.false, eq-eqb _ _ c.if-h-ne0.false, ne_eqb _ _ c.if-h-ne0-2.true)

pub returns-then-h-2 : goal.returns-then-h-2
unfolding null_refusal first
returns-then-h-2 c =
    rw (null (goal.at.returns-then-h-2 c).Else-not-is_null_pdu, c.if-h.false, eq-eqb _ _ c.if-h-ne0.false, eq-eqb _ _ c.if-h-ne0-2.false, c.if-h-2.true)

pub returns : goal.returns
unfolding null_refusal first
returns c =
    rw (null (goal.at.returns c).Else-not-is_null_pdu, c.if-h.false, eq-eqb _ _ c.if-h-ne0.false, eq-eqb _ _ c.if-h-ne0-2.false, c.if-h-2.false)
