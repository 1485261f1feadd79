use native.Mathlib.Omega.{arith}
use Prim.Native.Nat.{◌+◌, ◌-◌, ◌*◌, ◌/◌, ◌%◌}
use mathlib.Core.Path.{◌≡◌, ◌∙◌}
use lib.ListN.{length, take, drop, length-drop}
use lib.Seq.{length-take-le}
use Rattle.bits.proofs.Words.{get_part, put_part, put_bits-word}
use Rattle.bits.proofs.word.put_in_all.Goals as goal

pub returns : goal.returns
returns c =
    let a = c.args in
    let i = a.pos / 8 in
    let k = (a.pos + a.n + 7) / 8 - i in
    let o = a.pos % 8 in
    let l : length (take k (drop i a.s.now)) ≡ k = length-take-le k (drop i a.s.now) (omega (arith, length-drop i a.s.now)) in
    let place : 8 * i + o ≡ a.pos = omega arith in
    rw c.store_all.ensures (
    put_part a.s.now i k _ (omega arith) (λ j. omega (arith, rw c.store_all.ensures at (c.type_inv.s j)))
    ∙ rw (c.word_replaced.ensures, c.load_all-x.ensures, get_part a.s.now i k (omega arith), l)
    (rw place at (put_bits-word a.s.now (8 * i) (8 * k) o a.n (64 - (64 - 8 * k + o) - a.n) a.v (omega arith) (omega arith)))
    )
