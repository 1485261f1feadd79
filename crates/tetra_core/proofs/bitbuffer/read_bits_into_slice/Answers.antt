use mathlib.Core.Path.{sym, ◌∙◌}
use native.Mathlib.Omega.{arith}
use Rattle.tetra_core.specs.BitBuffer.{read_bits_into_slice, sliced_bits}
use Rattle.tetra_core.specs.Laws.Windows.{sliceable, read-refused, read_done, bytes-stay, bytes-done}
use Rattle.tetra_core.proofs.bitbuffer.read_bits_into_slice.Goals as goal

pub returns-in-Err : goal.returns-in-Err
unfolding read_bits_into_slice sliced_bits
returns-in-Err c =
    let e = c.in-Err.ensures in
    (rw c.refused.ensures (read-refused _ _ _ _ _ e), bytes-stay _ _ _ _ e)

pub copy_octets-requires : goal.copy_octets-requires
copy_octets-requires c = let r = sliceable _ _ _ _ (sym c.in-Ok.ensures) in let g = r.good in omega arith

pub overflow_add-pos : goal.overflow_add-pos
overflow_add-pos c = let r = sliceable _ _ _ _ (sym c.in-Ok.ensures) in let g = r.good in omega arith

pub returns-in-Ok : goal.returns-in-Ok
unfolding read_bits_into_slice sliced_bits
returns-in-Ok c =
    let e = sym c.in-Ok.ensures in
    (rw c.moved_to.ensures (read_done _ _ _ _ e), c.copy_octets.ensures ∙ bytes-done _ _ _ e)
