use mathlib.Core.Bool.{not}
use mathlib.Core.Path.{sym, ap, ◌∙◌}
use Rattle.tetra_mac.specs.Laws.ChannelAllocation.{channel_allocation-long}
use Rattle.tetra_mac.specs.Laws.Reply.{count_no_room, count_unknown, count-replied}
use Rattle.tetra_mac.proofs.allocation.tetra_channel_allocation_len.Goals as goal

pub channel_allocation_value-e-requires : goal.channel_allocation_value-e-requires
channel_allocation_value-e-requires c =
    channel_allocation-long _ (sym c.channel_allocation_known.ensures ∙ c.if-not-channel_allocation_known.false)

pub returns : goal.returns
returns c =
    count-replied _ _ _ _ c.channel_allocation_known.ensures (ap not c.if-not-channel_allocation_known.false) c.if-out-lt1.false c.channel_allocation_value-e.ensures (rw (← c.compute_len.ensures) c.counted.ensures)

pub returns-then-out-lt1 : goal.returns-then-out-lt1
returns-then-out-lt1 c = count_no_room _ _ _ _ c.if-out-lt1.true

pub returns-then-not-channel_allocation_known : goal.returns-then-not-channel_allocation_known
returns-then-not-channel_allocation_known c = count_unknown _ _ _ _ c.channel_allocation_known.ensures (ap not c.if-not-channel_allocation_known.true)
