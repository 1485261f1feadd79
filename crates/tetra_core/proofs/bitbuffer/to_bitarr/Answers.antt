use mathlib.Core.Path.{sym, ◌∙◌}
use native.Mathlib.Omega.{arith}
use Rattle.tetra_core.specs.BitBuffer.{to_bitarr, bitarr}
use Rattle.tetra_core.specs.Laws.Windows.{roomy, read-refused, read_done, bytes-stay, bytes-done}
use Rattle.tetra_core.proofs.bitbuffer.to_bitarr.Goals as goal

pub returns-in-Err : goal.returns-in-Err
unfolding to_bitarr bitarr
returns-in-Err c =
    let e = c.in-Err.ensures in
    (rw c.refused.ensures (read-refused _ _ _ _ _ e), bytes-stay _ _ _ _ e)

pub spread_all-requires : goal.spread_all-requires
spread_all-requires c = let r = roomy 0 _ _ _ (sym c.in-Ok.ensures) in let g = r.good in omega arith

pub overflow_add-pos : goal.overflow_add-pos
overflow_add-pos c = let r = roomy 0 _ _ _ (sym c.in-Ok.ensures) in let g = r.good in omega arith

pub returns-in-Ok : goal.returns-in-Ok
unfolding to_bitarr bitarr
returns-in-Ok c =
    let e = sym c.in-Ok.ensures in
    (rw c.moved_to.ensures (read_done _ _ _ _ e), c.spread_all.ensures ∙ bytes-done _ _ _ e)
