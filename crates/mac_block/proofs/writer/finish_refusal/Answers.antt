use mathlib.Core.Path.{sym, ◌∙◌}
use Rattle.tetra_core.specs.Refusal.{first}
use Rattle.block_rules.specs.Writer.{finish_refusal}
use Rattle.mac_block.proofs.writer.finish_refusal.Goals as goal

pub returns-then-not-good_block : goal.returns-then-not-good_block
unfolding finish_refusal first
returns-then-not-good_block c = rw (sym c.good_block.ensures ∙ c.if-not-good_block.true)

pub returns-then-not-good_bit : goal.returns-then-not-good_bit
unfolding finish_refusal first
returns-then-not-good_bit c =
    rw (sym c.good_block.ensures ∙ c.if-not-good_block.false, sym c.good_bit.ensures ∙ c.if-not-good_bit.true)

pub returns : goal.returns
unfolding finish_refusal first
returns c =
    rw (sym c.good_block.ensures ∙ c.if-not-good_block.false, sym c.good_bit.ensures ∙ c.if-not-good_bit.false)
