use Prim.Native.Nat.{◌+◌, ◌-◌, ◌^◌, ◌<◌}
use mathlib.Core.Path.{◌≡◌, sym, ◌∙◌}
use native.Mathlib.Omega.{arith}
use lib.Pow.{shr_mod}
use Rattle.bits.proofs.Laws.Reads.{get_bits-zero}
use borrow.Author.Rules.{rules}
use Rattle.bits.proofs.word.get_bits.Goals as goal

pub returns-then-n-eq0 : goal.returns-then-n-eq0
returns-then-n-eq0 c = rw c.if-n-eq0.true (sym (get_bits-zero _ _))

pub returns : goal.returns
returns c =
    let n = c.args.n in
    let e : n + (64 - n) ≡ 64 = omega arith in
    let small : c.get_ahead.result < 2 ^ (n + (64 - n)) = rw e (search rules) in
    sym (shr_mod n (64 - n) small) ∙ c.get_ahead.ensures n (omega arith) (omega arith)
