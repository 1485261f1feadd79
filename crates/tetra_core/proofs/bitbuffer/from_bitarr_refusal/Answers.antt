use mathlib.Core.Path.{◌≡◌, sym, ◌∙◌}
use mathlib.Core.Bool.{true}
use borrow.Author.Tests.{le-leb, lt-leb}
use Rattle.tetra_core.specs.Refusal.{first}
use Rattle.tetra_core.specs.BitBuffer.{good_window, are_bits, from_bitarr_refusal}
use Rattle.tetra_core.specs.Laws.Windows.{good_facts}
use Rattle.tetra_core.proofs.bitbuffer.from_bitarr_refusal.Goals.{Else-not-all_bits, Else-not-good_window}
use Rattle.tetra_core.proofs.bitbuffer.from_bitarr_refusal.Goals as goal

good : (c : Else-not-good_window) → good_window c.args.len c.args.c ≡ true
good c = sym c.good_window.ensures ∙ c.if-not-good_window.false

bits : (c : Else-not-all_bits) → are_bits c.args.buf.now ≡ true
bits c = sym c.all_bits.ensures ∙ c.if-not-all_bits.false

pub returns-then-not-good_window : goal.returns-then-not-good_window
unfolding from_bitarr_refusal first
returns-then-not-good_window c = rw (sym c.good_window.ensures ∙ c.if-not-good_window.true)

pub returns-then-not-all_bits : goal.returns-then-not-all_bits
unfolding from_bitarr_refusal first
returns-then-not-all_bits c = rw (good (goal.at.returns-then-not-all_bits c).Else-not-good_window, sym c.all_bits.ensures ∙ c.if-not-all_bits.true)

pub overflow_sub-c : goal.overflow_sub-c
overflow_sub-c c = (good_facts _ _ (good (goal.at.overflow_sub-c c).Else-not-good_window)).ends

pub returns-then-c-buf : goal.returns-then-c-buf
unfolding from_bitarr_refusal first
returns-then-c-buf c = rw (good (goal.at.returns-then-c-buf c).Else-not-good_window, bits (goal.at.returns-then-c-buf c).Else-not-all_bits, lt-leb _ _ c.if-c-buf.true)

pub returns : goal.returns
unfolding from_bitarr_refusal first
returns c = rw (good (goal.at.returns c).Else-not-good_window, bits (goal.at.returns c).Else-not-all_bits, le-leb _ _ c.if-c-buf.false)
