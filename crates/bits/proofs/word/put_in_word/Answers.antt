use native.Mathlib.Omega.{arith}
use Prim.Native.Nat.{◌-◌, ◌*◌}
use Rattle.bits.proofs.Words.{put_bits-word}
use Rattle.bits.proofs.word.put_in_word.Goals as goal

pub returns : goal.returns
returns c =
    let a = c.args in
    rw (c.store8.ensures, c.word_replaced.ensures, c.load8-x.ensures)
    (put_bits-word a.s.now (8 * a.at) 64 a.o a.n (64 - a.o - a.n) a.v (omega arith) (omega arith))
