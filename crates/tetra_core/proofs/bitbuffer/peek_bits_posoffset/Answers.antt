use mathlib.Core.Path.{◌≡◌, sym, ◌∙◌}
use mathlib.Core.Bool.{true}
use native.Mathlib.Omega.{arith}
use lib.ListN.{length}
use lib.IntN.{◌+ℤ◌}
use mir.Facts.{to_z-of_z}
use Rattle.tetra_core.specs.Refusal.{first}
use Rattle.tetra_core.specs.BitBuffer.{good_window, place_of, signed, peek_bits_posoffset}
use Rattle.tetra_core.specs.Laws.Windows.{good_facts, peek_bad}
use Rattle.tetra_core.proofs.bitbuffer.peek_bits_posoffset.Goals.{Else-not-good_window}
use Rattle.tetra_core.proofs.bitbuffer.peek_bits_posoffset.Goals as goal

good : (c : Else-not-good_window) → good_window (length c.args.s.now) c.args.c ≡ true
good c = sym c.good_window.ensures ∙ c.if-not-good_window.false

pub returns-then-not-good_window : goal.returns-then-not-good_window
unfolding peek_bits_posoffset
returns-then-not-good_window c =
    let a = c.args in
    rw c.refused.ensures (peek_bad a.s.now a.c a.num_bits (place_of (signed a.c.pos +ℤ a.offset)) (sym c.good_window.ensures ∙ c.if-not-good_window.true))

pub place_of-requires : goal.place_of-requires
place_of-requires c = let g = good_facts _ _ (good c) in omega arith

pub returns-in-Some : goal.returns-in-Some
unfolding peek_bits_posoffset
returns-in-Some c =
    let e = rw (to_z-of_z c.ranges.offset) at c.place_of.ensures in
    rw (sym e ∙ c.in-Some.is) c.peek_at.ensures

pub returns-in-None : goal.returns-in-None
unfolding peek_bits_posoffset first
returns-in-None c =
    let e = rw (to_z-of_z c.ranges.offset) at c.place_of.ensures in
    rw (sym e ∙ c.in-None.is, good (goal.at.returns-in-None c).Else-not-good_window) c.refused-in-None.ensures
