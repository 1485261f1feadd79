use mathlib.Core.Path.{◌≡◌, sym, ◌∙◌}
use mathlib.Core.Bool.{true}
use native.Mathlib.Omega.{arith}
use borrow.Author.Tests.{le-leb, lt-leb}
use Rattle.tetra_core.specs.Refusal.{first}
use Rattle.tetra_core.specs.BitBuffer.{good_window, bitvec_refusal}
use Rattle.tetra_core.specs.Laws.Windows.{good_facts}
use Rattle.tetra_core.proofs.bitbuffer.bitvec_refusal.Goals.{Else-not-good_window}
use Rattle.tetra_core.proofs.bitbuffer.bitvec_refusal.Goals as goal

good : (c : Else-not-good_window) → good_window c.args.len c.args.c ≡ true
good c = sym c.good_window.ensures ∙ c.if-not-good_window.false

pub returns-then-not-good_window : goal.returns-then-not-good_window
unfolding bitvec_refusal first
returns-then-not-good_window c = rw (sym c.good_window.ensures ∙ c.if-not-good_window.true)

pub overflow_sub-c : goal.overflow_sub-c
overflow_sub-c c = let g = good_facts _ _ (good (goal.at.overflow_sub-c c).Else-not-good_window) in omega arith

pub returns-then-room-c : goal.returns-then-room-c
unfolding bitvec_refusal first
returns-then-room-c c = rw (good (goal.at.returns-then-room-c c).Else-not-good_window, lt-leb _ _ c.if-room-c.true)

pub returns : goal.returns
unfolding bitvec_refusal first
returns c = rw (good (goal.at.returns c).Else-not-good_window, le-leb _ _ c.if-room-c.false)
