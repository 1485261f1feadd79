use native.Mathlib.Omega.{arith}
use borrow.Author.Rules.{rules}
use mathlib.Core.Path.{◌≡◌, ap, ◌∙◌}
use Prim.Native.Nat.{ℕ, ◌+◌, ◌-◌, ◌*◌, ◌/◌, ◌%◌}
use Rattle.bits.specs.Bits.{put_bits, bits_of_nat}
use Rattle.bits.proofs.Words.{put_bits_byte}
use Rattle.bits.proofs.word.put_in_byte.Goals as goal

pub returns : goal.returns
returns c =
    let a = c.args in
    let e : 8 * (a.pos / 8) + a.pos % 8 ≡ a.pos = omega arith in
    rw c.byte_replaced.ensures
    (put_bits_byte a.s.now (a.pos / 8) (a.pos % 8) a.n (8 - a.pos % 8 - a.n) a.v
    (search rules) (omega arith) (omega arith)
    ∙ ap (λ (p : ℕ). put_bits a.s.now p (bits_of_nat a.n a.v)) e)
