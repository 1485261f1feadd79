-- Channel allocation: how long it is, what was written is read back, and what was read is written again.
use Rattle.std.specs.Prelude.{ℕ, ◌+◌, ◌≤◌, ◌≡◌, refl, List, [], ◌++◌, Bool, length, None, Option, Some}
use Rattle.std.proofs.Common.{ap, append-nil, arith, add_assoc, lit≤, length-append}
use Rattle.codec.specs.Reader.{got, parse}
use Rattle.codec.specs.Row.{row_bits}
use Rattle.codec.proofs.Laws.Row.{length_row}
use Rattle.codec.specs.WrittenAgain.{Every}
use Rattle.channel_allocation.specs.ChannelAllocation.{read_channel_allocation, channel_allocation_refusal, channel_allocation_bits, channel_allocation_len}
use Rattle.channel_allocation.specs.Laws.ChannelAllocation.{channel_allocation-length, channel_allocation-len, channel_allocation-back, ChannelAllocationAgain, channel_allocation_every}
use Rattle.optional_elements.specs.Allocation.{allocation_most, allocation_len, read_allocation, allocation_refusal, flag_row, allocation_bits, normal_allocation}
use Rattle.optional_elements.specs.Optional.{IsOptional}
use Rattle.optional_elements.specs.Laws.Optional.{optional-zero, optional-one, optional_every}
use Rattle.channel_allocation.specs.declared.channel_allocation.ChanAllocElement.{ChanAllocElement}

pub allocation-length : (a : Option ChanAllocElement) → length (row_bits (flag_row a) ++ allocation_bits a) ≡ allocation_len a
allocation-length None = rw (append-nil, length_row (flag_row None))
allocation-length (Some e) = rw (length-append, length_row (flag_row (Some e)), channel_allocation-length e)

pub allocation-bounds : (a : Option ChanAllocElement) → (1 ≤ allocation_len a) × (allocation_len a ≤ allocation_most)
allocation-bounds None = (lit≤ tt, lit≤ tt)
allocation-bounds (Some e) = let n = channel_allocation-len e in (omega arith, omega arith)

-- its refusal, its length and its bits are those of an optional channel allocation
pub allocation-optional : (a : Option ChanAllocElement)
    → IsOptional channel_allocation_refusal channel_allocation_len channel_allocation_bits a (allocation_refusal a) (allocation_len a) (row_bits (flag_row a) ++ allocation_bits a)
allocation-optional None = record { refusal = refl; size = refl; bits = rw append-nil }
allocation-optional (Some e) = record { refusal = refl; size = refl; bits = refl }

pub allocation-back : (a : Option ChanAllocElement) → allocation_refusal a ≡ 0 → (rest : List Bool) (o : ℕ)
    → parse read_allocation (row_bits (flag_row a) ++ (allocation_bits a ++ rest)) o ≡ got (normal_allocation a) rest (o + allocation_len a)
unfolding read_allocation row_bits
allocation-back None e rest o = optional-zero read_channel_allocation rest o
allocation-back (Some a) e rest o =
    rw (optional-one read_channel_allocation [] (channel_allocation_bits a ++ rest) o, channel_allocation-back a e rest (o + 1), add_assoc)

-- it is not refused, it is in normal form, and its bits are xs
abbrev pub AllocationAgain : Option ChanAllocElement → List Bool → Type 0
AllocationAgain a xs = (allocation_refusal a ≡ 0) × (normal_allocation a ≡ a) × (row_bits (flag_row a) ++ allocation_bits a ≡ xs)

pub allocation_every : Every read_allocation AllocationAgain
unfolding read_allocation row_bits
allocation_every =
    optional_every ChannelAllocationAgain AllocationAgain read_channel_allocation channel_allocation_every
    (λ e xs h. (h.0, ap Some h.1, rw (append-nil, h.2)))
    (refl, refl, append-nil _)
