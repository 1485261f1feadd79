use mathlib.Core.Path.{sym, ◌∙◌}
use native.Mathlib.Omega.{arith}
use Rattle.tetra_core.specs.BitBuffer.{write_bits, written}
use Rattle.tetra_core.specs.Laws.Windows.{writable}
use Rattle.tetra_core.proofs.bitbuffer.write_bits.Goals as goal

pub put_unless-requires : goal.put_unless-requires
put_unless-requires c z = let r = writable _ _ _ _ (sym c.write_refusal-judged.ensures ∙ z) in let g = r.good in
    omega arith

pub moved_unless-requires : goal.moved_unless-requires
moved_unless-requires c z =
    let r = writable _ _ _ _ (sym c.write_refusal-judged.ensures ∙ z) in
    let g = r.good in
    omega arith

pub returns : goal.returns
unfolding write_bits written
returns c =
    let e = c.write_refusal-judged.ensures in
    (rw (← e) c.moved_unless.ensures, rw (← e) c.put_unless.ensures)
