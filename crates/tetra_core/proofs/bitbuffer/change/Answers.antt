use mathlib.Core.Path.{sym, ◌∙◌}
use Rattle.tetra_core.specs.BitBuffer.{changed}
use Rattle.tetra_core.proofs.bitbuffer.change.Goals as goal

pub returns-then-not-good_window : goal.returns-then-not-good_window
unfolding changed
returns-then-not-good_window c = rw (sym c.good_window.ensures ∙ c.if-not-good_window.true) c.unchanged.ensures

pub returns-then-not-good_window-2 : goal.returns-then-not-good_window-2
unfolding changed
returns-then-not-good_window-2 c =
    rw (
      sym c.good_window.ensures ∙ c.if-not-good_window.false,
      sym c.good_window-2.ensures ∙ c.if-not-good_window-2.true,
    )
    c.unchanged-then-not-good_window-2.ensures

pub returns : goal.returns
unfolding changed
returns c =
    rw (sym c.good_window.ensures ∙ c.if-not-good_window.false, sym c.good_window-2.ensures ∙ c.if-not-good_window-2.false)
