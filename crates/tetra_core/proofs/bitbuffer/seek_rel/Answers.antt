use mathlib.Core.Path.{sym, ◌∙◌}
use native.Mathlib.Omega.{arith}
use lib.ListN.{length}
use lib.IntN.{◌+ℤ◌}
use mir.Facts.{to_z-of_z}
use Rattle.tetra_core.specs.BitBuffer.{place_of, signed, seek_rel}
use Rattle.tetra_core.specs.Laws.Windows.{seek_bad}
use Rattle.tetra_core.proofs.bitbuffer.seek_rel.Goals as goal

pub returns-then-pos-gt65536 : goal.returns-then-pos-gt65536
unfolding seek_rel
returns-then-pos-gt65536 c =
    let a = c.args in
    rw c.unchanged.ensures (seek_bad (length a.s.now) a.c (place_of (signed a.c.pos +ℤ a.offset)) (λ g. omega arith))

pub returns-in-Some : goal.returns-in-Some
unfolding seek_rel
returns-in-Some c =
    let e = rw (to_z-of_z c.ranges.offset) at c.place_of.ensures in
    rw (sym e ∙ c.in-Some.is) c.set_raw_pos.ensures

pub returns-in-None : goal.returns-in-None
unfolding seek_rel
returns-in-None c =
    let e = rw (to_z-of_z c.ranges.offset) at c.place_of.ensures in
    rw (sym e ∙ c.in-None.is) c.unchanged-in-None.ensures
