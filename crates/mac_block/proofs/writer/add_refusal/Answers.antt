use Prim.Native.Nat.{◌+◌, ◌-◌, ◌*◌, ◌≤◌, ◌<◌}
use mathlib.Core.Path.{◌≡◌, sym}
use native.Mathlib.Omega.{arith}
use borrow.Author.Tests.{le-leb, lt-leb}
use Rattle.std.proofs.lemmas.Result.{err_from_is_err_and}
use Rattle.tetra_core.specs.Refusal.{refused_by}
use Rattle.block_rules.specs.Writer.{finish_refusal, check_of}
use Rattle.block_rules.proofs.Laws.Refusals.{placed, finish_tests, check-none}
use Rattle.mac_block.proofs.AddRefusals.{not_there, not_given, not_fine, by_room}
use Rattle.mac_block.proofs.writer.add_refusal.Goals.{In_ok-finish_refusal, In_ok-check_sized}
use Rattle.mac_block.proofs.writer.add_refusal.Goals as goal

pub returns-in_err-finish_refusal : goal.returns-in_err-finish_refusal
returns-in_err-finish_refusal c =
    let d = err_from_is_err_and c.from_residual.result c.from_residual.ensures.1 in
    rw (d.1, d.2) (not_there _ _ _ _ _ _ _ _ c.in_err-finish_refusal.ensures)

there : (c : In_ok-finish_refusal) → let a = c.args in finish_refusal a.len a.bits a.bit ≡ 0
there c = sym c.in_ok-finish_refusal.ensures

pub returns-then-slice-content_bits : goal.returns-then-slice-content_bits
returns-then-slice-content_bits c = not_given _ _ _ _ _ _ _ (there (goal.at.returns-then-slice-content_bits c).In_ok-finish_refusal) (omega arith)

pub returns-in_err-check_sized : goal.returns-in_err-check_sized
returns-in_err-check_sized c =
    let d = err_from_is_err_and c.from_residual-in_err-check_sized.result c.from_residual-in_err-check_sized.ensures.1 in
    rw (d.1, d.2)
    (not_fine _ _ _ _ _ _ _ (there (goal.at.returns-in_err-check_sized c).In_ok-finish_refusal) _ (omega arith) c.in_err-check_sized.ensures)

fine : (c : In_ok-check_sized) → let a = c.args in check_of a.header_bits (refused_by a.judged) a.content_bits ≡ 0
fine c = sym c.in_ok-check_sized.ensures

pub returns-then-bits-bit : goal.returns-then-bits-bit
returns-then-bits-bit c =
    let a = c.args in
    let h : a.bits - a.bit < a.header_bits + a.content_bits = omega arith in
    let g : a.content_bits ≤ 8 * a.slice = omega arith in
    rw (by_room _ _ _ _ _ _ _ (there (goal.at.returns-then-bits-bit c).In_ok-finish_refusal) g (fine (goal.at.returns-then-bits-bit c).In_ok-check_sized), lt-leb _ _ h)

pub returns : goal.returns
returns c =
    let a = c.args in
    let h : a.header_bits + a.content_bits ≤ a.bits - a.bit = omega arith in
    let g : a.content_bits ≤ 8 * a.slice = omega arith in
    rw (by_room _ _ _ _ _ _ _ (there (goal.at.returns c).In_ok-finish_refusal) g (fine (goal.at.returns c).In_ok-check_sized), le-leb _ _ h)

pub overflow_sub-bits : goal.overflow_sub-bits
overflow_sub-bits c = let t = finish_tests _ _ _ (there (goal.at.overflow_sub-bits c).In_ok-finish_refusal) in (placed _ _ t.1).inside

pub overflow_add-header_bits : goal.overflow_add-header_bits
overflow_add-header_bits c = let f = check-none _ _ _ (fine c) in omega arith
