use mathlib.Core.Path.{◌≡◌, sym, ◌∙◌}
use native.Mathlib.Omega.{arith}
use Prim.Native.Nat.{◌-◌}
use Rattle.tetra_core.specs.BitBuffer.{window_count}
use Rattle.tetra_core.proofs.bitbuffer.window_count.Goals as goal

pub returns-then-a-b : goal.returns-then-a-b
unfolding window_count
returns-then-a-b c = rw (sym c.good_window.ensures ∙ c.if-good_window.true)

pub returns-then-good_window : goal.returns-then-good_window
unfolding window_count
returns-then-good_window c =
    let a = c.args in
    let e : a.b - a.a ≡ 0 = omega arith in
    rw (sym c.good_window.ensures ∙ c.if-good_window.true, e)

pub returns : goal.returns
unfolding window_count
returns c = rw (sym c.good_window.ensures ∙ c.if-good_window.false)
