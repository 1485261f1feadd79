-- The slot grant (document 01): "8 bits: capacity 4, delay 4. Delay 0 is next opportunity, 1 to 13 that many, 14 frame 18, 15 wait."
use Rattle.std.specs.Prelude.{ℕ, ◌%◌, List, [], ◌∷◌, cond, ◌&&◌, get_or, eqb, leb, None, Option, Some, Result}
use Rattle.tetra_core.specs.Refusal.{unless}
use Rattle.tetra_core.specs.declared.bitbuffer.Cursor.{Cursor}
use Rattle.tetra_core.specs.declared.bitbuffer.Read.{Read}
use Rattle.tetra_core.specs.declared.bitbuffer.Moved.{Moved}
use Rattle.codec.specs.Reader.{Reader, done, field, ◌>>=◌}
use Rattle.codec.specs.Header.{at_cursor}
use Rattle.codec.specs.Row.{Cell, cell, row_bits}
use Rattle.codec.specs.Write.{write_at, written_at}
use Rattle.codec.specs.Cases.{case_up_to}
use Rattle.codec.specs.declared.cases.NoCase.{NoCase}
use Rattle.tetra_fields.specs.ReservationRequirement.{reservation_number, reservation_of, slotcount, reservation_for}
use Rattle.tetra_fields.specs.declared.enums.reservation_requirement.ReqSlotcount.{ReqSlotcount}
use Rattle.tetra_fields.specs.declared.enums.reservation_requirement.ReqSlotcount.TheVariants.{Subslot, Slots, Over68}
use Rattle.tetra_fields.specs.declared.enums.basic_slotgrant_cap_alloc.BasicSlotgrantCapAlloc.{BasicSlotgrantCapAlloc}
use Rattle.tetra_fields.specs.declared.enums.basic_slotgrant_cap_alloc.BasicSlotgrantCapAlloc.TheVariants.{FirstSubslotGranted, Grant1Slot, Grant2Slots, Grant3Slots, Grant4Slots, Grant5Slots, Grant6Slots, Grant8Slots, Grant10Slots, Grant13Slots, Grant17Slots, Grant24Slots, Grant34Slots, Grant51Slots, Grant68Slots, SecondSubslotGranted}
use Rattle.tetra_fields.specs.declared.enums.basic_slotgrant_cap_alloc.GrantedSlots.{GrantedSlots}
use Rattle.tetra_fields.specs.declared.enums.basic_slotgrant_cap_alloc.GrantedSlots.TheVariants as Granted'
use Rattle.tetra_fields.specs.declared.enums.basic_slotgrant_granting_delay.BasicSlotgrantGrantingDelay.{BasicSlotgrantGrantingDelay}
use Rattle.tetra_fields.specs.declared.enums.basic_slotgrant_granting_delay.BasicSlotgrantGrantingDelay.TheVariants.{CapAllocAtNextOpportunity, DelayNOpportunities, AllocStartsAtOpportunityInFr18, WaitForAnotherSlotgrantMessage}
use Rattle.tetra_fields.specs.declared.fields.basic_slotgrant.BasicSlotgrant.{BasicSlotgrant}

-- ---- the number of each case

abbrev pub cap_alloc_number : BasicSlotgrantCapAlloc → ℕ
cap_alloc_number FirstSubslotGranted = 0
cap_alloc_number Grant1Slot = 1
cap_alloc_number Grant2Slots = 2
cap_alloc_number Grant3Slots = 3
cap_alloc_number Grant4Slots = 4
cap_alloc_number Grant5Slots = 5
cap_alloc_number Grant6Slots = 6
cap_alloc_number Grant8Slots = 7
cap_alloc_number Grant10Slots = 8
cap_alloc_number Grant13Slots = 9
cap_alloc_number Grant17Slots = 10
cap_alloc_number Grant24Slots = 11
cap_alloc_number Grant34Slots = 12
cap_alloc_number Grant51Slots = 13
cap_alloc_number Grant68Slots = 14
cap_alloc_number SecondSubslotGranted = 15

-- the cases of 0 to 14; 15, the last number of 4 bits, is the second subslot
abbrev pub cap_allocs : List BasicSlotgrantCapAlloc
cap_allocs =
    FirstSubslotGranted
    ∷ Grant1Slot
    ∷ Grant2Slots
    ∷ Grant3Slots
    ∷ Grant4Slots
    ∷ Grant5Slots
    ∷ Grant6Slots
    ∷ Grant8Slots
    ∷ Grant10Slots
    ∷ Grant13Slots
    ∷ Grant17Slots
    ∷ Grant24Slots
    ∷ Grant34Slots
    ∷ Grant51Slots
    ∷ Grant68Slots
    ∷ []

-- the case of a field's bits, the low 4 of a number
unfoldable pub cap_alloc_of : ℕ → BasicSlotgrantCapAlloc
cap_alloc_of v = get_or cap_allocs (v % 16) SecondSubslotGranted

-- of a number, where it is one of 4 bits
abbrev pub cap_alloc_case : ℕ → Result BasicSlotgrantCapAlloc NoCase
cap_alloc_case = case_up_to 15 cap_alloc_of

abbrev pub delay_number : BasicSlotgrantGrantingDelay → ℕ
delay_number CapAllocAtNextOpportunity = 0
delay_number (DelayNOpportunities n) = n
delay_number AllocStartsAtOpportunityInFr18 = 14
delay_number WaitForAnotherSlotgrantMessage = 15

abbrev pub delay_of_bits : ℕ → BasicSlotgrantGrantingDelay
delay_of_bits v =
    cond (eqb v 0) CapAllocAtNextOpportunity
    (cond (eqb v 14) AllocStartsAtOpportunityInFr18 (cond (eqb v 15) WaitForAnotherSlotgrantMessage (DelayNOpportunities v)))

-- the case of a field's bits, the low 4 of a number
unfoldable pub delay_of : ℕ → BasicSlotgrantGrantingDelay
delay_of v = delay_of_bits (v % 16)

-- of a number, where it is one of 4 bits
abbrev pub delay_case : ℕ → Result BasicSlotgrantGrantingDelay NoCase
delay_case = case_up_to 15 delay_of

-- ---- how many slots: the numbers 1 to 14 mean as many as in a reservation requirement, 0 and 15 are the subslots

abbrev pub grant_of : ReqSlotcount → GrantedSlots
grant_of Subslot = Granted'.FirstSubslot
grant_of (Slots n) = Granted'.Slots n
grant_of Over68 = Granted'.SecondSubslot

abbrev pub granted_slots : BasicSlotgrantCapAlloc → GrantedSlots
granted_slots a = grant_of (slotcount (reservation_of (cap_alloc_number a)))

-- the least case that grants n slots, 0 for the first subslot and 99 for the second
abbrev pub cap_alloc_for : ℕ → Option BasicSlotgrantCapAlloc
cap_alloc_for n =
    cond (eqb n 99) (Some SecondSubslotGranted)
    (cond (leb n 68) (Some (cap_alloc_of (reservation_number (reservation_for n)))) None)

-- ---- what is read

unfoldable pub read_slotgrant : Reader BasicSlotgrant
read_slotgrant = do
  capacity ← field 4 done
  delay ← field 4 done
  done (record { capacity_allocation = cap_alloc_of capacity; granting_delay = delay_of delay })

-- its bits
abbrev pub slotgrant_size : ℕ
slotgrant_size = 8

-- the same at a cursor
unfoldable pub slotgrant_at : List ℕ → Cursor → Read BasicSlotgrant
slotgrant_at = at_cursor read_slotgrant

-- ---- what is written

-- "delay count not 1 to 13"
abbrev pub delay_refusal : BasicSlotgrantGrantingDelay → ℕ
delay_refusal CapAllocAtNextOpportunity = 0
delay_refusal (DelayNOpportunities n) = unless (leb 1 n && leb n 13) 14
delay_refusal AllocStartsAtOpportunityInFr18 = 0
delay_refusal WaitForAnotherSlotgrantMessage = 0

unfoldable pub slotgrant_refusal : BasicSlotgrant → ℕ
slotgrant_refusal g = delay_refusal g.granting_delay

unfoldable pub slotgrant_row : BasicSlotgrant → List Cell
slotgrant_row g = cell 4 (cap_alloc_number g.capacity_allocation) ∷ cell 4 (delay_number g.granting_delay) ∷ []

abbrev pub slotgrant_write : List ℕ → Cursor → BasicSlotgrant → Moved
slotgrant_write s c g = write_at s c (slotgrant_refusal g) (row_bits (slotgrant_row g))

abbrev pub slotgrant_written : List ℕ → Cursor → BasicSlotgrant → List ℕ
slotgrant_written s c g = written_at s c (slotgrant_refusal g) (row_bits (slotgrant_row g))
