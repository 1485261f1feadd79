use mathlib.Core.Path.{sym}
use native.Mathlib.Omega.{arith}
use Rattle.tetra_core.specs.BitBuffer.{read_bits}
use Rattle.tetra_core.specs.Laws.Windows.{readable, read-refused, read_done}
use Rattle.tetra_core.proofs.bitbuffer.read_bits.Goals as goal

pub returns-in-Err : goal.returns-in-Err
unfolding read_bits
returns-in-Err c = rw c.refused.ensures (read-refused _ _ _ _ _ c.in-Err.ensures)

pub get_bits-value-requires : goal.get_bits-value-requires
get_bits-value-requires c = let r = readable _ _ _ _ (sym c.in-Ok.ensures) in let g = r.good in omega arith

pub overflow_add-pos : goal.overflow_add-pos
overflow_add-pos c = let r = readable _ _ _ _ (sym c.in-Ok.ensures) in let g = r.good in omega arith

pub returns-in-Ok : goal.returns-in-Ok
unfolding read_bits
returns-in-Ok c = rw (c.moved_to.ensures, c.get_bits-value.ensures) (read_done _ _ _ _ (sym c.in-Ok.ensures))
