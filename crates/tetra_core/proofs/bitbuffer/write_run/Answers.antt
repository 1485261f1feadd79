use mathlib.Core.Path.{sym, ◌∙◌}
use native.Mathlib.Omega.{arith}
use Rattle.tetra_core.specs.BitBuffer.{write_run, run_written}
use Rattle.tetra_core.specs.Laws.Windows.{roomy, move_refused, move_done, bytes-stay, bytes-done}
use Rattle.tetra_core.proofs.bitbuffer.write_run.Goals as goal

pub returns-in-Err : goal.returns-in-Err
unfolding write_run run_written
returns-in-Err c =
    let e = c.in-Err.ensures in
    (move_refused _ _ _ _ e, bytes-stay _ _ _ _ e)

pub put_span-requires : goal.put_span-requires
put_span-requires c = let r = roomy 1 _ _ _ (sym c.in-Ok.ensures) in let g = r.good in omega arith

pub overflow_add-pos : goal.overflow_add-pos
overflow_add-pos c = let r = roomy 1 _ _ _ (sym c.in-Ok.ensures) in let g = r.good in omega arith

pub returns-in-Ok : goal.returns-in-Ok
unfolding write_run run_written
returns-in-Ok c =
    let e = sym c.in-Ok.ensures in
    (rw c.moved_to.ensures (move_done _ _ _ e), c.put_span.ensures ∙ bytes-done _ _ _ e)
