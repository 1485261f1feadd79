use borrow.Author.Tests.{ne_eqb}
use Rattle.tetra_mac.specs.Reply.{value_if}
use Rattle.tetra_block.specs.Block.{length_known, length_value}
use Rattle.tetra_block.proofs.length_of.Goals as goal

pub returns-in-0 : goal.returns-in-0
unfolding value_if length_known length_value
returns-in-0 c = rw c.in-0.is

pub returns-in-62 : goal.returns-in-62
unfolding value_if length_known length_value
returns-in-62 c = rw c.in-62.is

pub returns-in-63 : goal.returns-in-63
unfolding value_if length_known length_value
returns-in-63 c = rw c.in-63.is

pub returns-in_default : goal.returns-in_default
unfolding value_if length_known
returns-in_default c = let r = c.in_default.in_default-own.rest in rw (ne_eqb _ 0 r.0.0.1, ne_eqb _ 62 r.0.1, ne_eqb _ 63 r.1)
