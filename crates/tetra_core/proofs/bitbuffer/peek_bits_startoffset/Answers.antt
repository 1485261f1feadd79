use mathlib.Core.Path.{◌≡◌, sym, ◌∙◌}
use mathlib.Core.Bool.{true}
use native.Mathlib.Omega.{arith}
use lib.ListN.{length}
use Rattle.tetra_core.specs.Refusal.{first}
use Rattle.tetra_core.specs.BitBuffer.{good_window, peek_at, read_refusal}
use Rattle.tetra_core.specs.Laws.Windows.{good_facts, peek_past}
use Rattle.tetra_core.proofs.bitbuffer.peek_bits_startoffset.Goals.{Else-not-good_window}
use Rattle.tetra_core.proofs.bitbuffer.peek_bits_startoffset.Goals as goal

good : (c : Else-not-good_window) → good_window (length c.args.s.now) c.args.c ≡ true
good c = sym c.good_window.ensures ∙ c.if-not-good_window.false

pub returns-then-not-good_window : goal.returns-then-not-good_window
unfolding peek_at read_refusal first
returns-then-not-good_window c = rw (sym c.good_window.ensures ∙ c.if-not-good_window.true) c.refused.ensures

pub overflow_sub-c : goal.overflow_sub-c
overflow_sub-c c = let g = good_facts _ _ (good (goal.at.overflow_sub-c c).Else-not-good_window) in omega arith

pub returns-then-c-offset : goal.returns-then-c-offset
returns-then-c-offset c = let g = good_facts _ _ (good (goal.at.returns-then-c-offset c).Else-not-good_window) in rw c.refused-then-c-offset.ensures (peek_past _ _ _ _ g (omega arith))
