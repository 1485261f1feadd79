-- The reservation requirement, clause 21.5.4, 4 bits: "Codes 0 to 15 mean one subslot, then 1, 2, 3, 4, 5, 6, 8, 10, 13, 17, 24, 34, 51
-- and 68 slots, and over 68".
use Rattle.std.specs.Prelude.{ℕ, ◌%◌, List, [], ◌∷◌, Bool, true, cond, get_or, eqb, leb, Result}
use Rattle.codec.specs.Cases.{case_up_to}
use Rattle.codec.specs.declared.cases.NoCase.{NoCase}
use Rattle.tetra_fields.specs.declared.enums.reservation_requirement.ReservationRequirement.{ReservationRequirement}
use Rattle.tetra_fields.specs.declared.enums.reservation_requirement.ReservationRequirement.TheVariants.{Req1Subslot, Req1Slot, Req2Slots, Req3Slots, Req4Slots, Req5Slots, Req6Slots, Req8Slots, Req10Slots, Req13Slots, Req17Slots, Req24Slots, Req34Slots, Req51Slots, Req68Slots, ReqOver68}
use Rattle.tetra_fields.specs.declared.enums.reservation_requirement.ReqSlotcount.{ReqSlotcount}
use Rattle.tetra_fields.specs.declared.enums.reservation_requirement.ReqSlotcount.TheVariants.{Subslot, Slots, Over68}

-- ---- the number of each case

abbrev pub reservation_number : ReservationRequirement → ℕ
reservation_number Req1Subslot = 0
reservation_number Req1Slot = 1
reservation_number Req2Slots = 2
reservation_number Req3Slots = 3
reservation_number Req4Slots = 4
reservation_number Req5Slots = 5
reservation_number Req6Slots = 6
reservation_number Req8Slots = 7
reservation_number Req10Slots = 8
reservation_number Req13Slots = 9
reservation_number Req17Slots = 10
reservation_number Req24Slots = 11
reservation_number Req34Slots = 12
reservation_number Req51Slots = 13
reservation_number Req68Slots = 14
reservation_number ReqOver68 = 15

-- the cases of 0 to 14; 15, the last number of 4 bits, is over 68 slots
abbrev pub reservations : List ReservationRequirement
reservations =
    Req1Subslot
    ∷ Req1Slot
    ∷ Req2Slots
    ∷ Req3Slots
    ∷ Req4Slots
    ∷ Req5Slots
    ∷ Req6Slots
    ∷ Req8Slots
    ∷ Req10Slots
    ∷ Req13Slots
    ∷ Req17Slots
    ∷ Req24Slots
    ∷ Req34Slots
    ∷ Req51Slots
    ∷ Req68Slots
    ∷ []

-- the case of a field's bits, the low 4 of a number
unfoldable pub reservation_of : ℕ → ReservationRequirement
reservation_of v = get_or reservations (v % 16) ReqOver68

-- of a number, where it is one of 4 bits
abbrev pub reservation_case : ℕ → Result ReservationRequirement NoCase
reservation_case = case_up_to 15 reservation_of

-- ---- what each case asks for

abbrev pub slotcount : ReservationRequirement → ReqSlotcount
slotcount Req1Subslot = Subslot
slotcount Req1Slot = Slots 1
slotcount Req2Slots = Slots 2
slotcount Req3Slots = Slots 3
slotcount Req4Slots = Slots 4
slotcount Req5Slots = Slots 5
slotcount Req6Slots = Slots 6
slotcount Req8Slots = Slots 8
slotcount Req10Slots = Slots 10
slotcount Req13Slots = Slots 13
slotcount Req17Slots = Slots 17
slotcount Req24Slots = Slots 24
slotcount Req34Slots = Slots 34
slotcount Req51Slots = Slots 51
slotcount Req68Slots = Slots 68
slotcount ReqOver68 = Over68

-- n slots, 0 for one subslot, are no more than that
abbrev pub enough : ReqSlotcount → ℕ → Bool
enough Subslot n = eqb n 0
enough (Slots m) n = leb n m
enough Over68 n = true

-- the first case that is enough for n slots
abbrev pub first_for : ℕ → List ReservationRequirement → ReservationRequirement
first_for n [] = ReqOver68
first_for n (a ∷ rs) = cond (enough (slotcount a) n) a (first_for n rs)

unfoldable pub reservation_for : ℕ → ReservationRequirement
reservation_for n = first_for n reservations
