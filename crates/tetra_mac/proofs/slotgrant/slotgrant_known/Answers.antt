use borrow.Author.Tests.{le-leb, lt-leb}
use Rattle.tetra_mac.specs.Slotgrant.{slotgrant_known}
use Rattle.tetra_mac.proofs.slotgrant.slotgrant_known.Goals as goal

pub returns-then-words-lt-WORDS : goal.returns-then-words-lt-WORDS
unfolding slotgrant_known
returns-then-words-lt-WORDS c = rw (lt-leb _ _ c.if-words-lt-WORDS.true)

pub returns-then-words-gt15 : goal.returns-then-words-gt15
unfolding slotgrant_known
returns-then-words-gt15 c = rw (le-leb _ _ c.if-words-lt-WORDS.false, lt-leb _ _ c.if-words-gt15.true)

pub returns-then-words-gt3 : goal.returns-then-words-gt3
unfolding slotgrant_known
returns-then-words-gt3 c = rw (le-leb _ _ c.if-words-lt-WORDS.false, le-leb _ _ c.if-words-gt15.false, lt-leb _ _ c.if-words-gt3.true)

pub returns : goal.returns
unfolding slotgrant_known
returns c = rw (le-leb _ _ c.if-words-lt-WORDS.false, le-leb _ _ c.if-words-gt15.false, le-leb _ _ c.if-words-gt3.false)
