use mathlib.Core.Path.{sym, ◌∙◌}
use borrow.Author.Tests.{le-leb, lt-leb}
use Rattle.tetra_mac.specs.AccessAssign.{access_assign_known}
use Rattle.tetra_mac.proofs.assign.AccessAssignRecordWORDS.known.Goals as goal

pub returns : goal.returns
unfolding access_assign_known
returns c =
    rw (
      c.two_known.ensures,
      le-leb _ _ c.if-words-lt-WORDS.false,
      sym c.one_known.ensures ∙ c.if-not-one_known.false,
    )

pub returns-then-words-lt-WORDS : goal.returns-then-words-lt-WORDS
unfolding access_assign_known
returns-then-words-lt-WORDS c = rw (lt-leb _ _ c.if-words-lt-WORDS.true)

pub returns-then-not-one_known : goal.returns-then-not-one_known
unfolding access_assign_known
returns-then-not-one_known c = rw (le-leb _ _ c.if-words-lt-WORDS.false, sym c.one_known.ensures ∙ c.if-not-one_known.true)
