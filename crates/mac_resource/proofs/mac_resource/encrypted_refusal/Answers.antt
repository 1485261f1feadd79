use mathlib.Core.Path.{sym, ◌∙◌}
use borrow.Author.Tests.{eq-eqb, ne_eqb}
use Rattle.mac_resource.specs.MacResource.{encrypted_refusal}
use Rattle.mac_resource.proofs.mac_resource.encrypted_refusal.Goals as goal

pub returns-then-not-has_identity : goal.returns-then-not-has_identity
unfolding encrypted_refusal
returns-then-not-has_identity c = rw (sym c.has_identity.ensures ∙ c.if-not-has_identity.true)

pub returns-then-h-eq0 : goal.returns-then-h-eq0
unfolding encrypted_refusal
returns-then-h-eq0 c =
    rw (sym c.has_identity.ensures ∙ c.if-not-has_identity.false, eq-eqb _ _ c.if-h-eq0.true)

pub returns : goal.returns
unfolding encrypted_refusal
returns c =
    rw (sym c.has_identity.ensures ∙ c.if-not-has_identity.false, ne_eqb _ _ c.if-h-eq0.false)
