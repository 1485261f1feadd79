-- Channel allocation (document 01): "three flags, each followed by its element if set: .. channel allocation."
use Rattle.std.specs.Prelude.{ℕ, ◌+◌, List, [], ◌∷◌, Bool, None, Option, Some}
use Rattle.codec.specs.Reader.{Reader}
use Rattle.codec.specs.Row.{Cell, cell}
use Rattle.channel_allocation.specs.ChannelAllocation.{read_channel_allocation, len_refusal, channel_allocation_refusal, channel_allocation_bits, channel_allocation_most, channel_allocation_len, normal_channel_allocation}
use Rattle.optional_elements.specs.Optional.{optional}
use Rattle.channel_allocation.specs.declared.channel_allocation.ChanAllocElement.{ChanAllocElement}

-- ---- how many bits

abbrev pub allocation_most : ℕ
allocation_most = 1 + channel_allocation_most

abbrev pub allocation_len : Option ChanAllocElement → ℕ
allocation_len None = 1
allocation_len (Some e) = 1 + channel_allocation_len e

-- "refuse 6 for direction 0"
abbrev pub allocation_len_refusal : Option ChanAllocElement → ℕ
allocation_len_refusal None = 0
allocation_len_refusal (Some e) = len_refusal e

-- ---- what is read

unfoldable pub read_allocation : Reader (Option ChanAllocElement)
read_allocation = optional read_channel_allocation

-- ---- what is written

abbrev pub allocation_refusal : Option ChanAllocElement → ℕ
allocation_refusal None = 0
allocation_refusal (Some e) = channel_allocation_refusal e

abbrev pub flag_row : Option ChanAllocElement → List Cell
flag_row None = cell 1 0 ∷ []
flag_row (Some e) = cell 1 1 ∷ []

abbrev pub allocation_bits : Option ChanAllocElement → List Bool
allocation_bits None = []
allocation_bits (Some e) = channel_allocation_bits e

-- what it is read back as
abbrev pub normal_allocation : Option ChanAllocElement → Option ChanAllocElement
normal_allocation None = None
normal_allocation (Some e) = Some (normal_channel_allocation e)
