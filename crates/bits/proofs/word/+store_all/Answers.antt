use mathlib.Core.Path.{sym}
use native.Mathlib.Omega.{arith}
use Rattle.bits.proofs.Laws.Values.{bits-zero}
use Rattle.bits.proofs.Laws.Writes.{put_bits-nil}
use Rattle.bits.proofs.Words.{last_byte}
use Rattle.bits.proofs.word.+store_all.Goals as goal

pub returns-then-n-eq0 : goal.returns-then-n-eq0
returns-then-n-eq0 t c = rw (c.if-n-eq0.true, bits-zero) (sym (put_bits-nil c.args.s.now 0 (λ i. omega (arith, c.type_inv.s i))))

pub store_all-requires : goal.store_all-requires
store_all-requires t c = (omega (arith, c.split_at_mut-rest.ensures.front_len), omega (arith, c.split_at_mut-rest.ensures.front_len))

pub returns : goal.returns
returns t c =
    let s = c.split_at_mut-rest in
    rw c.store_all.ensures
    (last_byte c.args.s.now s.result.0.now s.result.1.now c.args.x (omega (arith, s.ensures.front_len)) (omega (arith, s.ensures.back_len)) (λ i. omega (arith, rw c.store_all.ensures at (c.type_inv.s i))))
