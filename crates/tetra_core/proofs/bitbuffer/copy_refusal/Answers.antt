use mathlib.Core.Path.{◌≡◌, sym, ◌∙◌}
use mathlib.Core.Bool.{true}
use borrow.Author.Tests.{le-leb, lt-leb}
use Rattle.tetra_core.specs.Refusal.{first}
use Rattle.tetra_core.specs.BitBuffer.{good_window, copy_refusal}
use Rattle.tetra_core.specs.Laws.Windows.{good_facts}
use Rattle.tetra_core.proofs.bitbuffer.copy_refusal.Goals.{Else-not-good_window, Else-not-good_window-2}
use Rattle.tetra_core.proofs.bitbuffer.copy_refusal.Goals as goal

to : (c : Else-not-good_window) → good_window c.args.t_len c.args.d ≡ true
to c = sym c.good_window.ensures ∙ c.if-not-good_window.false

from : (c : Else-not-good_window-2) → good_window c.args.s_len c.args.c ≡ true
from c = sym c.good_window-2.ensures ∙ c.if-not-good_window-2.false

pub returns-then-not-good_window : goal.returns-then-not-good_window
unfolding copy_refusal first
returns-then-not-good_window c = rw (sym c.good_window.ensures ∙ c.if-not-good_window.true)

pub returns-then-not-good_window-2 : goal.returns-then-not-good_window-2
unfolding copy_refusal first
returns-then-not-good_window-2 c = rw (to (goal.at.returns-then-not-good_window-2 c).Else-not-good_window, sym c.good_window-2.ensures ∙ c.if-not-good_window-2.true)

pub overflow_sub-c : goal.overflow_sub-c
overflow_sub-c c = (good_facts _ _ (from (goal.at.overflow_sub-c c).Else-not-good_window-2)).ends

pub returns-then-c-num_bits : goal.returns-then-c-num_bits
unfolding copy_refusal first
returns-then-c-num_bits c = rw (to (goal.at.returns-then-c-num_bits c).Else-not-good_window, from (goal.at.returns-then-c-num_bits c).Else-not-good_window-2, lt-leb _ _ c.if-c-num_bits.true)

pub overflow_sub-d : goal.overflow_sub-d
overflow_sub-d c = (good_facts _ _ (to (goal.at.overflow_sub-d c).Else-not-good_window)).ends

pub returns-then-d-num_bits : goal.returns-then-d-num_bits
unfolding copy_refusal first
returns-then-d-num_bits c =
    rw (to (goal.at.returns-then-d-num_bits c).Else-not-good_window, from (goal.at.returns-then-d-num_bits c).Else-not-good_window-2, le-leb _ _ c.if-c-num_bits.false, lt-leb _ _ c.if-d-num_bits.true)

pub returns : goal.returns
unfolding copy_refusal first
returns c =
    rw (to (goal.at.returns c).Else-not-good_window, from (goal.at.returns c).Else-not-good_window-2, le-leb _ _ c.if-c-num_bits.false, le-leb _ _ c.if-d-num_bits.false)
