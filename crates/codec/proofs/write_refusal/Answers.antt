use mathlib.Core.Path.{◌≡◌, refl, sym, ◌∙◌}
use mathlib.Core.Bool.{true}
use borrow.Author.Tests.{le-leb, lt-leb}
use Rattle.tetra_core.specs.BitBuffer.{good_window}
use Rattle.tetra_core.specs.Refusal.{first, first_skip, first_last, stopped, went_on}
use Rattle.tetra_core.specs.Laws.Windows.{good_facts}
use Rattle.codec.specs.Write.{refusal_at}
use Rattle.codec.proofs.write_refusal.Goals.{Else-not-good_window}
use Rattle.codec.proofs.write_refusal.Goals as goal

good : (c : Else-not-good_window) → good_window c.args.len c.args.c ≡ true
good c = sym c.good_window.ensures ∙ c.if-not-good_window.false

pub returns-then-not-good_window : goal.returns-then-not-good_window
unfolding refusal_at first
returns-then-not-good_window c = rw (sym c.good_window.ensures ∙ c.if-not-good_window.true)

pub returns-in_err-judged : goal.returns-in_err-judged
unfolding refusal_at
returns-in_err-judged c =
    rw (good (goal.at.returns-in_err-judged c).Else-not-good_window, first_skip _ _ refl)
    (stopped c.from_residual.result _ refl c.in_err-judged.was c.from_residual.ensures.1)

pub overflow_sub-c : goal.overflow_sub-c
overflow_sub-c c = (good_facts _ _ (good (goal.at.overflow_sub-c c).Else-not-good_window)).ends

pub returns-then-c-size : goal.returns-then-c-size
unfolding refusal_at
returns-then-c-size c = rw (good (goal.at.returns-then-c-size c).Else-not-good_window, first_skip 0 _ refl, went_on {a = c.args.judged} _ refl c.in_ok-judged.was, lt-leb _ _ c.if-c-size.true, first_last)

pub returns : goal.returns
unfolding refusal_at
returns c = rw (good (goal.at.returns c).Else-not-good_window, first_skip 0 _ refl, went_on {a = c.args.judged} _ refl c.in_ok-judged.was, le-leb _ _ c.if-c-size.false, first_last)
