-- Slot granting and channel allocation, one behind the other: the end of a MAC-RESOURCE's header, and of a MAC-END's.
use Rattle.std.specs.Prelude.{ℕ, ◌+◌, List, [], ◌∷◌, ◌++◌, Bool}
use Rattle.tetra_core.specs.Refusal.{first}
use Rattle.codec.specs.Reader.{Reader, done, ◌>>=◌}
use Rattle.codec.specs.Row.{row_bits}
use Rattle.optional_elements.specs.SlotGranting.{granting_most, granting_len, read_granting, granting_refusal, granting_row}
use Rattle.optional_elements.specs.Allocation.{allocation_most, allocation_len, read_allocation, allocation_refusal, flag_row, allocation_bits, normal_allocation}
use Rattle.optional_elements.specs.declared.grant_and_allocation.GrantAndAllocation.{GrantAndAllocation}

-- ---- how many bits

abbrev pub grant_and_allocation_most : ℕ
grant_and_allocation_most = granting_most + allocation_most

abbrev pub grant_and_allocation_len : GrantAndAllocation → ℕ
grant_and_allocation_len e = granting_len e.slot_granting_element + allocation_len e.chan_alloc_element

-- ---- what is read

unfoldable pub read_grant_and_allocation : Reader GrantAndAllocation
read_grant_and_allocation = do
  granting ← read_granting
  allocation ← read_allocation
  done (record { slot_granting_element = granting; chan_alloc_element = allocation })

-- ---- what is written

unfoldable pub grant_and_allocation_refusal : GrantAndAllocation → ℕ
grant_and_allocation_refusal e = first (granting_refusal e.slot_granting_element ∷ allocation_refusal e.chan_alloc_element ∷ [])

unfoldable pub grant_and_allocation_bits : GrantAndAllocation → List Bool
grant_and_allocation_bits e =
    row_bits (granting_row e.slot_granting_element) ++ (row_bits (flag_row e.chan_alloc_element) ++ allocation_bits e.chan_alloc_element)

-- what they are read back as
abbrev pub normal_grant_and_allocation : GrantAndAllocation → GrantAndAllocation
normal_grant_and_allocation e =
    record { slot_granting_element = e.slot_granting_element; chan_alloc_element = normal_allocation e.chan_alloc_element }
