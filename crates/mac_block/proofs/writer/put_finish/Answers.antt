use Prim.Native.Nat.{◌-◌, ◌/◌, ◌%◌}
use mathlib.Core.Path.{refl, sym, ◌∙◌}
use native.Mathlib.Omega.{arith}
use borrow.Author.Rules.{rules}
use Rattle.tetra_core.specs.Refusal.{refused-none}
use Rattle.block_rules.specs.Writer.{finish_bits, writer_at, finished, finish_to}
use Rattle.block_rules.specs.Demand3.{IsBlock}
use Rattle.block_rules.proofs.Laws.Refusals.{Placed, finish-free, finish_accepted}
use Rattle.block_rules.proofs.Laws.Calls.{after-refused}
use Rattle.block_rules.proofs.Laws.WrittenBack.{length-finish}
use Rattle.mac_block.proofs.Judged.{refused-some}
use Rattle.mac_block.proofs.Puts.{length_part, put-part}
use Rattle.mac_block.proofs.writer.put_finish.Goals.{Else-is_err}
use Rattle.mac_block.proofs.writer.put_finish.Goals as goal

free : (c : Else-is_err) → let a = c.args in IsBlock a.bits a.block.now × Placed a.bits a.bit
free c = finish-free _ (writer_at _ _) (sym c.requires ∙ refused-none _ (sym c.is_err.ensures.value ∙ c.if-is_err.false))

pub returns-then-is_err : goal.returns-then-is_err
unfolding finish_to
returns-then-is_err c =
    rw (after-refused _ (writer_at _ _) (finished _ _) (λ z. refused-some _ (sym c.is_err.ensures.value ∙ c.if-is_err.true) (c.requires ∙ z))) (refl, refl)

pub put_closing-requires : goal.put_closing-requires
put_closing-requires c =
    let f = free (goal.at.put_closing-requires c).Else-is_err in
    let a = c.args in
    let l = length_part a.block.now (a.bit / 8) in
    omega arith

pub returns : goal.returns
unfolding finished
returns c =
    let a = c.args in
    let f = free (goal.at.returns c).Else-is_err in
    let e = put-part a.block.now (a.bit / 8) (a.bit % 8) a.bit (finish_bits (a.bits - a.bit))
    (λ i. search rules) (omega arith) (omega (arith, length-finish (a.bits - a.bit))) c.put_closing.ensures in
    rw (finish_accepted _ (writer_at _ _) f.0 f.1) (refl, e)

pub slice_bounds-put_closing-count : goal.slice_bounds-put_closing-count
slice_bounds-put_closing-count c = let f = free c in omega arith

pub slice_bounds-put_closing-start : goal.slice_bounds-put_closing-start
slice_bounds-put_closing-start c = let f = free c in omega arith

pub overflow_sub-bits : goal.overflow_sub-bits
overflow_sub-bits c = let f = free (goal.at.overflow_sub-bits c).Else-is_err in omega arith
