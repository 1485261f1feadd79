use borrow.Author.Tests.{le-leb, lt-leb, eq-eqb, ne_eqb}
use Rattle.block_rules.specs.Writer.{good_bit}
use Rattle.mac_block.proofs.writer.good_bit.Goals as goal

pub returns-then-bits-bit : goal.returns-then-bits-bit
unfolding good_bit
returns-then-bits-bit c = rw (lt-leb _ _ c.if-bits-bit.true)

pub returns-then-bit-bits : goal.returns-then-bit-bits
unfolding good_bit
returns-then-bit-bits c = rw (le-leb _ _ c.if-bits-bit.false, eq-eqb _ _ c.if-bit-bits.true)

pub returns : goal.returns
unfolding good_bit
returns c = rw (le-leb _ _ c.if-bits-bit.false, ne_eqb _ _ c.if-bit-bits.false)
