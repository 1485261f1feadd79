use Prim.Native.Nat.{◌+◌, ◌*◌, ◌/◌, ◌%◌}
use mathlib.Core.Path.{◌≡◌, sym}
use native.Mathlib.Omega.{arith}
use Rattle.bits.proofs.Laws.Reads.{bits_at_zero, get_bits_lt, bits_of_nat-get_bits}
use Rattle.bits.proofs.Laws.Writes.{put_bits-nil}
use Rattle.bits.proofs.Laws.Spans.{copy_grows}
use Rattle.bits.proofs.span.copy_span.Goals as goal

pub loop-i-init : goal.loop-i-init
loop-i-init c = rw bits_at_zero (sym (put_bits-nil _ _ (λ i. omega (arith, c.type_inv.t i))))

pub loop-i-preserved : goal.loop-i-preserved
loop-i-preserved c =
    let a = c.args in
    let done = 64 * c.loop-i.i in
    let next : 64 * (c.loop-i.i + 1) ≡ done + 64 = omega arith in
    rw (c.put_by_words.ensures, next, c.get_bits-x.ensures, bits_of_nat-get_bits a.s.now (a.spos + done) 64 (omega arith), c.loop-i.invariant)
    (copy_grows a.s.now a.t.now a.tpos a.spos done 64 (omega arith) (omega arith))

pub put_bits-requires : goal.put_bits-requires
put_bits-requires c = (omega arith, omega arith, omega arith, rw c.get_bits-rest.ensures (get_bits_lt _ _ _ (omega arith)))

pub returns : goal.returns
returns c =
    let a = c.args in
    let done = 64 * (a.n / 64) in
    let k = a.n % 64 in
    let last : c.loop-i.i ≡ a.n / 64 = omega arith in
    let all : done + k ≡ a.n = omega arith in
    rw (c.put_bits.ensures, c.get_bits-rest.ensures, bits_of_nat-get_bits a.s.now (a.spos + done) k (omega arith), rw last at c.loop-i.invariant)
    (rw all at (copy_grows a.s.now a.t.now a.tpos a.spos done k (omega arith) (omega arith)))
