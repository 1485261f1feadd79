use Prim.Native.Nat.{◌-◌}
use mathlib.Core.Path.{refl, sym}
use native.Mathlib.Omega.{arith}
use lib.Pow.{pow-lt, shl_exact}
use Rattle.bits.proofs.Laws.Shifts.{one_shl}
use Rattle.bits.proofs.Laws.Writes.{put_bits-nil}
use Rattle.block_rules.specs.Writer.{fill_bits}
use Rattle.mac_block.proofs.Puts.{fill_is}
use Rattle.mac_block.proofs.fill.put_short_fill.Goals as goal

pub returns-then-n-eq0 : goal.returns-then-n-eq0
unfolding fill_bits
returns-then-n-eq0 c = rw c.if-n-eq0.true (sym (put_bits-nil _ _ (λ i. omega (arith, c.type_inv.s i))))

pub put_bits-requires : goal.put_bits-requires
put_bits-requires c =
    let n = c.args.n in
    (omega arith, omega arith, omega arith, rw (one_shl (n - 1) (omega arith)) (pow-lt (omega arith)))

pub returns : goal.returns
returns c =
    let n = c.args.n in
    rw (c.put_bits.ensures, shl_exact {a = 1} 1 (n - 1) 64 (omega arith) (omega arith), fill_is 1 n refl)
