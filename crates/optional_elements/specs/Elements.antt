-- The elements of a MAC-RESOURCE (document 01): "three flags, each followed by its element if set: power 4, slot grant 8, channel allocation."
use Rattle.std.specs.Prelude.{ℕ, ◌+◌, List, [], ◌∷◌, ◌++◌, Bool, true, false, ◌&&◌, eqb, leb, None, Option, Some}
use Rattle.tetra_core.specs.Refusal.{first}
use Rattle.codec.specs.declared.Ahead.{Ahead}
use Rattle.channel_allocation.specs.declared.channel_allocation.ChanAllocElement.{ChanAllocElement}
use Rattle.tetra_fields.specs.declared.fields.basic_slotgrant.BasicSlotgrant.{BasicSlotgrant}
use Rattle.codec.specs.Ahead.{next_bits}
use Rattle.codec.specs.Reader.{Reader, done, ◌>>=◌}
use Rattle.codec.specs.Row.{row_bits}
use Rattle.optional_elements.specs.PowerControl.{power_most, power_len, read_power, power_refusal, power_row}
use Rattle.optional_elements.specs.GrantAndAllocation.{grant_and_allocation_most, grant_and_allocation_len, read_grant_and_allocation, grant_and_allocation_refusal, grant_and_allocation_bits, normal_grant_and_allocation}
use Rattle.optional_elements.specs.declared.elements.Elements.{Elements}

-- ---- how many bits

abbrev pub flags_len : ℕ
flags_len = 3

abbrev pub elements_most : ℕ
elements_most = power_most + grant_and_allocation_most

abbrev pub elements_len : Elements → ℕ
elements_len e = power_len e.power_control_element + grant_and_allocation_len e.grant_and_allocation

-- ---- no element

abbrev pub no_elements : Elements
no_elements = record {
  power_control_element = None;
  grant_and_allocation = record { slot_granting_element = None; chan_alloc_element = None };
}

abbrev pub is_bare : Elements → Bool
is_bare e =
    noPower e.power_control_element && noGranting e.grant_and_allocation.slot_granting_element && noAllocation e.grant_and_allocation.chan_alloc_element
  where
    noPower : Option ℕ → Bool
    noPower None = true
    noPower (Some v) = false

    noGranting : Option BasicSlotgrant → Bool
    noGranting None = true
    noGranting (Some g) = false

    noAllocation : Option ChanAllocElement → Bool
    noAllocation None = true
    noAllocation (Some e) = false

-- the three flags are there, and none of them is set
abbrev pub no_element : Ahead → Bool
no_element a = leb flags_len a.left && eqb (next_bits a flags_len) 0

-- ---- what is read

unfoldable pub read_elements : Reader Elements
read_elements = do
  power ← read_power
  behind ← read_grant_and_allocation
  done (record { power_control_element = power; grant_and_allocation = behind })

-- ---- what is written

unfoldable pub elements_refusal : Elements → ℕ
elements_refusal e = first (power_refusal e.power_control_element ∷ grant_and_allocation_refusal e.grant_and_allocation ∷ [])

unfoldable pub elements_bits : Elements → List Bool
elements_bits e = row_bits (power_row e.power_control_element) ++ grant_and_allocation_bits e.grant_and_allocation

-- what they are read back as
abbrev pub normal_elements : Elements → Elements
normal_elements e =
    record { power_control_element = e.power_control_element; grant_and_allocation = normal_grant_and_allocation e.grant_and_allocation }
