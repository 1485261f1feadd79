use Rattle.channel_allocation.specs.ChannelAllocation.{read_channel_allocation, channel_allocation_most}
use Rattle.optional_elements.specs.Allocation.{read_allocation}
use Rattle.optional_elements.proofs.allocation.read_allocation.Goals as goal

pub returns : goal.returns
unfolding read_allocation
returns c = c.read_optional.ensures read_channel_allocation channel_allocation_most (λ r e. e.1)
