use mathlib.Core.Path.{◌≡◌, sym, ◌∙◌}
use mathlib.Core.Bool.{true}
use borrow.Author.Tests.{le-leb, lt-leb}
use Rattle.tetra_core.specs.Refusal.{first, first_last}
use Rattle.tetra_core.specs.BitBuffer.{good_window, room_refusal}
use Rattle.tetra_core.specs.Laws.Windows.{good_facts}
use Rattle.tetra_core.proofs.bitbuffer.room_refusal.Goals.{Else-not-good_window}
use Rattle.tetra_core.proofs.bitbuffer.room_refusal.Goals as goal

good : (c : Else-not-good_window) → good_window c.args.len c.args.c ≡ true
good c = sym c.good_window.ensures ∙ c.if-not-good_window.false

pub returns-then-not-good_window : goal.returns-then-not-good_window
unfolding room_refusal first
returns-then-not-good_window c = rw (sym c.good_window.ensures ∙ c.if-not-good_window.true)

pub overflow_sub-c : goal.overflow_sub-c
overflow_sub-c c = (good_facts _ _ (good (goal.at.overflow_sub-c c).Else-not-good_window)).ends

pub returns-then-c-num_bits : goal.returns-then-c-num_bits
unfolding room_refusal first
returns-then-c-num_bits c = rw (good (goal.at.returns-then-c-num_bits c).Else-not-good_window, lt-leb _ _ c.if-c-num_bits.true) (sym (first_last _))

pub returns : goal.returns
unfolding room_refusal first
returns c = rw (good (goal.at.returns c).Else-not-good_window, le-leb _ _ c.if-c-num_bits.false)
