use native.Mathlib.Omega.{arith}
use mathlib.Core.Path.{◌≡◌, ap, ◌∙◌}
use Prim.Native.Nat.{ℕ, ◌+◌, ◌-◌, ◌*◌}
use lib.Pow.{shr_lt}
use Rattle.bits.specs.Bits.{put_bits, bits_of_nat}
use Rattle.bits.proofs.Words.{put_bits_step}
use borrow.Author.Rules.{rules}
use Rattle.bits.proofs.word.put_nine.Goals as goal

pub put_in_word-requires : goal.put_in_word-requires
put_in_word-requires c =
    let a = c.args in
    let k = a.o + a.n - 64 in
    let e : 64 - a.o + k ≡ a.n = omega arith in
    (search rules, search rules, search rules, shr_lt (64 - a.o) k (rw e c.requires.4))

pub returns : goal.returns
returns c =
    let a = c.args in
    let k = a.o + a.n - 64 in
    let e : 64 - a.o + k ≡ a.n = omega arith in
    rw c.byte_replaced.ensures
    (put_bits_step a.s.now _ (8 * a.at + a.o) (64 - a.o) (a.at + 8) 0 k (8 - k) a.v
    c.put_in_word.ensures (omega arith) (omega arith) (omega arith) (omega arith))
    ∙ ap (λ (j : ℕ). put_bits a.s.now (8 * a.at + a.o) (bits_of_nat j a.v)) e
