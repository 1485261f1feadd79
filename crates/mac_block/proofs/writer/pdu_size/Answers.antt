use Rattle.block_rules.specs.Ending.{pdu_size}
use Rattle.block_rules.specs.Downlink.{ending_of}
use Rattle.mac_block.proofs.writer.pdu_size.Goals as goal

pub returns-in-Counted : goal.returns-in-Counted
unfolding pdu_size ending_of
returns-in-Counted c =
    rw (c.min.ensures, c.octets_to_bits-bits.ensures, c.octets_of.ensures.0, c.in-Counted.is)

pub returns-in-SecondSlotStolen : goal.returns-in-SecondSlotStolen
unfolding pdu_size ending_of
returns-in-SecondSlotStolen c = rw c.in-SecondSlotStolen.is

pub returns-in-FragStart : goal.returns-in-FragStart
unfolding pdu_size ending_of
returns-in-FragStart c = rw c.in-FragStart.is
