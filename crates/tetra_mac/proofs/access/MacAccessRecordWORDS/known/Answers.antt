use mathlib.Core.Path.{sym, ◌∙◌}
use borrow.Author.Tests.{le-leb, lt-leb}
use Rattle.tetra_mac.specs.MacAccess.{mac_access_known}
use Rattle.tetra_mac.proofs.access.MacAccessRecordWORDS.known.Goals as goal

pub returns : goal.returns
unfolding mac_access_known
returns c =
    rw (
      c.option_known.ensures,
      le-leb _ _ c.if-words-lt-WORDS.false,
      sym c.uplink_known.ensures ∙ c.if-not-uplink_known.false,
    )

pub returns-then-words-lt-WORDS : goal.returns-then-words-lt-WORDS
unfolding mac_access_known
returns-then-words-lt-WORDS c = rw (lt-leb _ _ c.if-words-lt-WORDS.true)

pub returns-then-not-uplink_known : goal.returns-then-not-uplink_known
unfolding mac_access_known
returns-then-not-uplink_known c = rw (le-leb _ _ c.if-words-lt-WORDS.false, sym c.uplink_known.ensures ∙ c.if-not-uplink_known.true)
