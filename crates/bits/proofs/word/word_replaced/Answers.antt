use native.Mathlib.Omega.{arith}
use mathlib.Core.Path.{◌≡◌}
use Prim.Native.Nat.{◌-◌, ◌*◌, ◌/◌, ◌%◌, ◌^◌}
use Rattle.bits.proofs.Laws.Shifts as nums
use native.Mathlib.Nat.{mod-lt}
use lib.Pow.{shl_exact, pow_pos}
use Rattle.bits.proofs.word.word_replaced.Goals.{After-word_field-old}
use Rattle.bits.proofs.word.word_replaced.Goals as goal

old-shl : (c : After-word_field-old)
    → (c.word_field-old.result * 2 ^ (64 - c.args.o - c.args.n)) % 2 ^ 64
    ≡ c.args.x / 2 ^ (64 - c.args.o - c.args.n) % 2 ^ c.args.n * 2 ^ (64 - c.args.o - c.args.n)
old-shl c =
    let a = c.args in
    rw c.word_field-old.ensures
    (shl_exact {a = a.x / 2 ^ (64 - a.o - a.n) % 2 ^ a.n} a.n (64 - a.o - a.n) 64 (mod-lt _ (pow_pos a.n)) (omega arith))

pub returns : goal.returns
returns c =
    let a = c.args in
    rw (old-shl c, shl_exact {a = a.v} a.n (64 - a.o - a.n) 64 c.requires.2 (omega arith))
    (nums.replaced_is a.x a.n (64 - a.o - a.n) a.v c.requires.2)

pub overflow_add-result : goal.overflow_add-result
overflow_add-result c =
    let a = c.args in
    record { fits = rw (returns c) (nums.replaced_lt a.x a.o a.n (64 - a.o - a.n) a.v (omega arith) c.ranges.x.fits) }
