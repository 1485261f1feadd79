use mathlib.Core.Path.{sym, ◌∙◌}
use native.Mathlib.Omega.{arith}
use Rattle.tetra_core.specs.BitBuffer.{copy_bits, copied}
use Rattle.tetra_core.specs.Laws.Windows.{copyable, copy_refused, copy_done, bytes-stay, bytes-done}
use Rattle.tetra_core.proofs.bitbuffer.copy_bits.Goals as goal

pub returns-in-Err : goal.returns-in-Err
unfolding copy_bits copied
returns-in-Err c =
    let e = c.in-Err.ensures in
    (copy_refused _ _ _ _ _ _ e, bytes-stay _ _ _ _ e)

pub copy_span-requires : goal.copy_span-requires
copy_span-requires c =
    let r = copyable _ _ _ _ _ (sym c.in-Ok.ensures) in
    let g = r.to in
    let h = r.from in
    omega arith

pub overflow_add-to : goal.overflow_add-to
overflow_add-to c = let r = copyable _ _ _ _ _ (sym c.in-Ok.ensures) in let g = r.to in omega arith

pub overflow_add-from : goal.overflow_add-from
overflow_add-from c = let r = copyable _ _ _ _ _ (sym c.in-Ok.ensures) in let g = r.from in omega arith

pub returns-in-Ok : goal.returns-in-Ok
unfolding copy_bits copied
returns-in-Ok c =
    let e = sym c.in-Ok.ensures in
    (rw (c.moved_to-in-Ok.ensures, c.moved_to.ensures) (copy_done _ _ _ _ _ e), c.copy_span.ensures ∙ bytes-done _ _ _ e)
