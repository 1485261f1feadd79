use mathlib.Core.Path.{sym, ◌∙◌}
use native.Mathlib.Omega.{arith}
use Rattle.tetra_core.specs.BitBuffer.{copy_bits_from_bitarr, from_bitarr}
use Rattle.tetra_core.specs.Laws.Windows.{gatherable, move_refused, move_done, bytes-stay, bytes-done}
use Rattle.tetra_core.proofs.bitbuffer.copy_bits_from_bitarr.Goals as goal

pub returns-in-Err : goal.returns-in-Err
unfolding copy_bits_from_bitarr from_bitarr
returns-in-Err c =
    let e = c.in-Err.ensures in
    (move_refused _ _ _ _ e, bytes-stay _ _ _ _ e)

pub gather_all-requires : goal.gather_all-requires
gather_all-requires c = let r = gatherable _ _ _ (sym c.in-Ok.ensures) in let g = r.good in omega arith

pub overflow_add-pos : goal.overflow_add-pos
overflow_add-pos c = let r = gatherable _ _ _ (sym c.in-Ok.ensures) in let g = r.good in omega arith

pub returns-in-Ok : goal.returns-in-Ok
unfolding copy_bits_from_bitarr from_bitarr
returns-in-Ok c =
    let e = sym c.in-Ok.ensures in
    (rw c.moved_to.ensures (move_done _ _ _ e), c.gather_all.ensures ∙ bytes-done _ _ _ e)
