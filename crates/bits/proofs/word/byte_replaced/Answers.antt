use Prim.Native.Nat.{◌+◌, ◌-◌}
use native.Mathlib.Omega.{arith}
use Rattle.bits.proofs.Laws.Shifts.{masked_is}
use Rattle.bits.proofs.Words.{patch_lt}
use Rattle.bits.proofs.word.byte_replaced.Goals.{After-mask-ones}
use Rattle.bits.proofs.word.byte_replaced.Goals as goal

pub returns : goal.returns
returns c =
    let a = c.args in
    masked_is a.b a.k a.m a.v _ (omega arith) c.mask-ones.ensures

pub overflow_cast-result : goal.overflow_cast-result
overflow_cast-result c =
    let a = c.args in
    record { fits = rw (returns c) (patch_lt (8 - (a.k + a.m)) a.k a.m a.b a.v (omega arith) (omega arith)) }
