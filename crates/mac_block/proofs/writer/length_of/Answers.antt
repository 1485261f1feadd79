use native.Mathlib.Omega.{arith}
use Rattle.block_rules.specs.Ending.{length_of}
use Rattle.block_rules.specs.Downlink.{ending_of}
use Rattle.mac_block.proofs.writer.length_of.Goals as goal

pub returns-in-Counted : goal.returns-in-Counted
unfolding length_of ending_of
returns-in-Counted c = (rw c.in-Counted.is c.octets_of.ensures.0, omega arith)

pub returns-in-SecondSlotStolen : goal.returns-in-SecondSlotStolen
unfolding length_of ending_of
returns-in-SecondSlotStolen c = (rw c.in-SecondSlotStolen.is, omega arith)

pub returns-in-FragStart : goal.returns-in-FragStart
unfolding length_of ending_of
returns-in-FragStart c = (rw c.in-FragStart.is, omega arith)
