use Prim.Native.Nat.{◌^◌}
use mathlib.Core.Path.{◌≡◌, sym, ◌∙◌}
use mathlib.Core.Bool.{true}
use lib.Dec.{ltb}
use borrow.Author.Tests.{le-leb, lt-leb}
use Rattle.tetra_core.specs.Refusal.{first}
use Rattle.tetra_core.specs.BitBuffer.{good_window, write_refusal}
use Rattle.tetra_core.specs.Laws.Windows.{good_facts}
use Rattle.tetra_core.proofs.bitbuffer.write_refusal.Goals.{Else-not-good_window, Else-not-value_fits}
use Rattle.tetra_core.proofs.bitbuffer.write_refusal.Goals as goal

good : (c : Else-not-good_window) → good_window c.args.len c.args.c ≡ true
good c = sym c.good_window.ensures ∙ c.if-not-good_window.false

wide : (c : Else-not-value_fits) → ltb c.args.value (2 ^ c.args.num_bits) ≡ true
wide c = sym c.value_fits.ensures ∙ c.if-not-value_fits.false

pub returns-then-not-good_window : goal.returns-then-not-good_window
unfolding write_refusal first
returns-then-not-good_window c = rw (sym c.good_window.ensures ∙ c.if-not-good_window.true)

pub returns-then-num_bits-gt64 : goal.returns-then-num_bits-gt64
unfolding write_refusal first
returns-then-num_bits-gt64 c = rw (good (goal.at.returns-then-num_bits-gt64 c).Else-not-good_window, lt-leb _ _ c.if-num_bits-gt64.true)

pub returns-then-not-value_fits : goal.returns-then-not-value_fits
unfolding write_refusal first
returns-then-not-value_fits c =
    rw (good (goal.at.returns-then-not-value_fits c).Else-not-good_window, le-leb _ _ c.if-num_bits-gt64.false, sym c.value_fits.ensures ∙ c.if-not-value_fits.true)

pub overflow_sub-c : goal.overflow_sub-c
overflow_sub-c c = (good_facts _ _ (good (goal.at.overflow_sub-c c).Else-not-good_window)).ends

pub returns-then-c-num_bits : goal.returns-then-c-num_bits
unfolding write_refusal first
returns-then-c-num_bits c =
    rw (good (goal.at.returns-then-c-num_bits c).Else-not-good_window, le-leb _ _ c.if-num_bits-gt64.false, wide (goal.at.returns-then-c-num_bits c).Else-not-value_fits, lt-leb _ _ c.if-c-num_bits.true)

pub returns : goal.returns
unfolding write_refusal first
returns c =
    rw (good (goal.at.returns c).Else-not-good_window, le-leb _ _ c.if-num_bits-gt64.false, wide (goal.at.returns c).Else-not-value_fits, le-leb _ _ c.if-c-num_bits.false)
