use mathlib.Core.Path.{sym}
use native.Mathlib.Omega.{arith}
use Rattle.block_rules.proofs.Laws.Extents.{extent-short}
use Rattle.mac_block.proofs.Stepping.{extent-word}
use Rattle.mac_block.proofs.extent.extent_at.Goals as goal

pub returns-then-left-lt-LEAST_BITS : goal.returns-then-left-lt-LEAST_BITS
returns-then-left-lt-LEAST_BITS c h e = sym (extent-short _ (omega (arith, e.bits)))

pub returns : goal.returns
returns c h e =
    rw (extent-word (c.next_bits-x.ensures.word h e (omega arith)), ← e.bits, c.requires.1) c.extent_of.ensures
