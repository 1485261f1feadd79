use mathlib.Core.Path.{sym, ◌∙◌}
use borrow.Author.Tests.{le-leb, lt-leb}
use Rattle.tetra_resource.specs.MacResource.{mac_resource_known}
use Rattle.tetra_resource.proofs.mac_resource_known.Goals as goal

pub returns-then-not-element_known : goal.returns-then-not-element_known
unfolding mac_resource_known
returns-then-not-element_known c =
    rw (
      le-leb 25 _ c.if-words-lt-WORDS.false,
      sym c.address_known.ensures ∙ c.if-not-address_known.false,
      sym c.element_known.ensures ∙ c.if-not-element_known.true,
    )

pub returns : goal.returns
unfolding mac_resource_known
returns c =
    rw (
      c.element_known-2.ensures,
      le-leb 25 _ c.if-words-lt-WORDS.false,
      sym c.address_known.ensures ∙ c.if-not-address_known.false,
      sym c.element_known.ensures ∙ c.if-not-element_known.false,
    )

pub returns-then-words-lt-WORDS : goal.returns-then-words-lt-WORDS
unfolding mac_resource_known
returns-then-words-lt-WORDS c = rw (lt-leb 25 _ c.if-words-lt-WORDS.true)

pub returns-then-not-address_known : goal.returns-then-not-address_known
unfolding mac_resource_known
returns-then-not-address_known c = rw (le-leb 25 _ c.if-words-lt-WORDS.false, sym c.address_known.ensures ∙ c.if-not-address_known.true)
