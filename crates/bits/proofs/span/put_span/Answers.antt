use Prim.Native.Nat.{◌+◌, ◌-◌, ◌*◌, ◌/◌, ◌%◌, ◌^◌}
use mathlib.Core.Path.{◌≡◌, sym}
use native.Mathlib.Omega.{arith}
use lib.ListN.{replicate}
use Rattle.bits.specs.Bits.{val}
use Rattle.bits.proofs.Laws.Writes.{put_bits-nil}
use Rattle.bits.proofs.Laws.Spans.{alike, alike_lt, alike-bits, span_grows}
use Rattle.bits.proofs.span.put_span.Goals.{After-filled-full}
use Rattle.bits.proofs.span.put_span.Goals as goal

pub loop-i-init : goal.loop-i-init
loop-i-init c = sym (put_bits-nil _ _ (λ i. omega (arith, c.type_inv.s i)))

pub loop-i-preserved : goal.loop-i-preserved
loop-i-preserved c =
    let a = c.args in
    let done = 64 * c.loop-i.i in
    let next : 64 * (c.loop-i.i + 1) ≡ done + 64 = omega arith in
    rw (c.put_by_words.ensures, next, c.filled-full.ensures, alike-bits, c.loop-i.invariant) (span_grows a.ones a.s.now a.pos done 64 (omega arith))

-- the bits behind the words
rest : (c : After-filled-full) → c.filled-full.result / 2 ^ (64 - c.args.n % 64) ≡ val (replicate (c.args.n % 64) c.args.ones)
rest c = rw c.filled-full.ensures (alike _ 64 (c.args.n % 64) _ (omega arith))

pub put_bits-requires : goal.put_bits-requires
put_bits-requires c =
    (omega arith, omega arith, omega arith, rw (rest (goal.at.put_bits-requires c).After-filled-full) (alike_lt _ (c.args.n % 64)))

pub returns-then-k-gt0 : goal.returns-then-k-gt0
returns-then-k-gt0 c =
    let a = c.args in
    let done = 64 * (a.n / 64) in
    let k = a.n % 64 in
    let last : c.loop-i.i ≡ a.n / 64 = omega arith in
    let all : done + k ≡ a.n = omega arith in
    rw (c.put_bits.ensures, rest (goal.at.returns-then-k-gt0 c).After-filled-full, alike-bits, rw last at c.loop-i.invariant)
    (rw all at (span_grows a.ones a.s.now a.pos done k (omega arith)))
