use Prim.Native.Nat.{◌-◌}
use mathlib.Core.Path.{◌≡◌, refl, sym, ap, ◌∙◌}
use native.Mathlib.Omega.{arith}
use Rattle.bits.proofs.Laws.Reads.{bits_at_zero}
use Rattle.block_rules.specs.Read.{before_last_one}
use Rattle.mac_block.specs.LastOne.{last_one}
use Rattle.mac_block.proofs.LastOnes.{turn_zeros, turn_place, turn_found}
use Rattle.mac_block.proofs.fill.+last_one_of.Goals as goal

pub returns-then-from-to : goal.returns-then-from-to
unfolding before_last_one last_one
returns-then-from-to t c =
    let a = c.args in
    let e : a.to - a.from ≡ 0 = omega arith in
    rw (e, bits_at_zero) refl

pub overflow_sub-result-then-x-ne0 : goal.overflow_sub-result-then-x-ne0
overflow_sub-result-then-x-ne0 t c =
    let a = c.args in
    let z = turn_place a.s.now a.from a.to c.min-k.result _ (omega arith) (omega arith) c.get_bits-x.ensures (omega arith) c.if-x-ne0.true in
    omega (arith, z)

pub returns-then-x-ne0 : goal.returns-then-x-ne0
returns-then-x-ne0 t c =
    let a = c.args in
    turn_found a.s.now a.from a.to c.min-k.result _ (omega arith) (omega arith) c.get_bits-x.ensures (omega arith) c.if-x-ne0.true

pub returns : goal.returns
returns t c =
    let a = c.args in
    c.last_one_of.ensures
    ∙ sym (ap (last_one a.from) (turn_zeros a.s.now a.from a.to c.min-k.result _ (omega arith) (omega arith) c.get_bits-x.ensures c.if-x-ne0.false))
