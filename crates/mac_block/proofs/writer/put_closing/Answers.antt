use Prim.Native.Nat.{◌+◌, ◌-◌}
use mathlib.Core.Path.{◌≡◌, refl}
use native.Mathlib.Omega.{arith}
use borrow.Author.Tests.{lt-ltb}
use lib.Pow.{shr_lt}
use Rattle.block_rules.specs.Writer.{finish_bits}
use Rattle.block_rules.proofs.Laws.WrittenBack.{length-finish}
use Rattle.codec.proofs.Pieces.{put-behind}
use Rattle.mac_block.proofs.Puts.{closing-is, finish_more}
use Rattle.mac_block.proofs.writer.put_closing.Goals as goal

pub returns-then-left-lt-LEAST_BITS : goal.returns-then-left-lt-LEAST_BITS
unfolding finish_bits
returns-then-left-lt-LEAST_BITS c =
    rw (lt-ltb _ _ c.if-left-lt-LEAST_BITS.true) c.put_short_fill.ensures

pub put_by_words-requires : goal.put_by_words-requires
put_by_words-requires c =
    let left = c.args.left in
    let e : left + (64 - left) ≡ 64 = omega arith in
    (omega arith, omega arith, omega arith, shr_lt left (64 - left) (rw e (omega arith)), omega arith)

pub returns-then-left-le64 : goal.returns-then-left-le64
returns-then-left-le64 c =
    let a = c.args in
    rw (c.put_by_words.ensures, closing-is a.left (omega arith) (omega arith))

pub returns : goal.returns
returns c =
    let a = c.args in
    rw (
      c.put_span.ensures,
      c.put_by_words-2.ensures,
      closing-is 64 (omega arith) (omega arith),
      ← finish_more 64 a.left (omega arith) (omega arith),
    )
    (put-behind _ _ 64 _ _ (length-finish 64) (omega arith) refl refl)
