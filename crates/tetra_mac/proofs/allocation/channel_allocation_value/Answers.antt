use Rattle.tetra_mac.specs.ChannelAllocation.{channel_allocation_value}
use Rattle.tetra_mac.proofs.allocation.channel_allocation_value.Goals as goal

pub returns : goal.returns
unfolding channel_allocation_value
returns c =
    rw (
      c.from_raw.ensures,
      c.timeslots_from_raw.ensures,
      c.from_raw-2.ensures,
      c.number16.ensures,
      c.number8.ensures,
      c.number_if.ensures,
      c.number8-2.ensures,
    )
