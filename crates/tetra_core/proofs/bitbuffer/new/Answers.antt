use mathlib.Core.Path.{sym, ◌∙◌}
use Rattle.tetra_core.specs.BitBuffer.{opened}
use Rattle.tetra_core.proofs.bitbuffer.new.Goals as goal

pub returns-then-good_window : goal.returns-then-good_window
unfolding opened
returns-then-good_window c = rw (sym c.good_window.ensures ∙ c.if-good_window.true)

pub returns : goal.returns
unfolding opened
returns c = rw (sym c.good_window.ensures ∙ c.if-good_window.false)
