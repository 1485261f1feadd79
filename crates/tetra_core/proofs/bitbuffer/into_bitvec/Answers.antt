use mathlib.Core.Path.{sym}
use native.Mathlib.Omega.{arith}
use lib.Seq.{length-take-le}
use Rattle.tetra_core.specs.BitBuffer.{into_bitvec, bitvec}
use Rattle.tetra_core.specs.Laws.Windows.{takeable, read-refused, read_done, bytes-stay, bytes-done}
use Rattle.tetra_core.proofs.bitbuffer.into_bitvec.Goals as goal

pub returns-in-Err : goal.returns-in-Err
unfolding into_bitvec bitvec
returns-in-Err c =
    let e = c.in-Err.ensures in
    (rw c.refused.ensures (read-refused _ _ _ _ _ e), bytes-stay _ _ _ _ e)

pub overflow_sub-n : goal.overflow_sub-n
overflow_sub-n c = let r = takeable _ _ _ (sym c.in-Ok.ensures) in let g = r.good in omega arith

pub slice_bounds-spread_all-end : goal.slice_bounds-spread_all-end
slice_bounds-spread_all-end c = (takeable _ _ _ (sym c.in-Ok.ensures)).room

pub slice_bounds-spread_all-end-in-Ok : goal.slice_bounds-spread_all-end-in-Ok
slice_bounds-spread_all-end-in-Ok c = sym (length-take-le _ _ (takeable _ _ _ (sym c.in-Ok.ensures)).room)

pub spread_all-requires : goal.spread_all-requires
spread_all-requires c = let r = takeable _ _ _ (sym c.in-Ok.ensures) in let g = r.good in rw (length-take-le _ _ r.room) (omega arith, omega arith)

pub returns-in-Ok : goal.returns-in-Ok
unfolding into_bitvec bitvec
returns-in-Ok c =
    let e = sym c.in-Ok.ensures in
    let r = takeable _ _ _ e in
    (read_done _ _ _ _ e, rw (c.spread_all.ensures, length-take-le _ _ r.room) (bytes-done _ _ _ e))
