-- An access field (document 01): "code 2, base frame length 4, as `into_raw`; all 64 values read". It is one field of 6 bits.
use Rattle.std.specs.Prelude.{ℕ, ◌+◌, ◌*◌, ◌/◌, ◌%◌, List, [], ◌∷◌, get_or, Result}
use Rattle.codec.specs.Cases.{case_up_to}
use Rattle.codec.specs.declared.cases.NoCase.{NoCase}
use Rattle.access_assign.specs.declared.enums.access_code.AccessCode.{AccessCode}
use Rattle.access_assign.specs.declared.enums.access_code.AccessCode.TheVariants.{AccessCodeA, AccessCodeB, AccessCodeC, AccessCodeD}
use Rattle.access_assign.specs.declared.structs.base_frame_length.BaseFrameLength.{BaseFrameLength}
use Rattle.access_assign.specs.declared.structs.base_frame_length.BaseFrameLength.TheVariants.{ReservedSubslot, CLCHSubslot, OngoingFrame, Subslots1, Subslots2, Subslots3, Subslots4, Subslots5, Subslots6, Subslots8, Subslots10, Subslots12, Subslots16, Subslots20, Subslots24, Subslots32}
use Rattle.access_assign.specs.declared.structs.access_field.AccessField.{AccessField}

-- ---- the number of each case

abbrev pub access_code_number : AccessCode → ℕ
access_code_number AccessCodeA = 0
access_code_number AccessCodeB = 1
access_code_number AccessCodeC = 2
access_code_number AccessCodeD = 3

-- the codes of 0 to 2; 3, the last number of 2 bits, is code D
abbrev pub access_codes : List AccessCode
access_codes = AccessCodeA ∷ AccessCodeB ∷ AccessCodeC ∷ []

-- the case of a field's bits, the low 2 of a number
unfoldable pub access_code_of : ℕ → AccessCode
access_code_of v = get_or access_codes (v % 4) AccessCodeD

-- of a number, where it is one of 2 bits
abbrev pub access_code_case : ℕ → Result AccessCode NoCase
access_code_case = case_up_to 3 access_code_of

abbrev pub base_frame_length_number : BaseFrameLength → ℕ
base_frame_length_number ReservedSubslot = 0
base_frame_length_number CLCHSubslot = 1
base_frame_length_number OngoingFrame = 2
base_frame_length_number Subslots1 = 3
base_frame_length_number Subslots2 = 4
base_frame_length_number Subslots3 = 5
base_frame_length_number Subslots4 = 6
base_frame_length_number Subslots5 = 7
base_frame_length_number Subslots6 = 8
base_frame_length_number Subslots8 = 9
base_frame_length_number Subslots10 = 10
base_frame_length_number Subslots12 = 11
base_frame_length_number Subslots16 = 12
base_frame_length_number Subslots20 = 13
base_frame_length_number Subslots24 = 14
base_frame_length_number Subslots32 = 15

-- the lengths of 0 to 14; 15, the last number of 4 bits, is 32 subslots
abbrev pub base_frame_lengths : List BaseFrameLength
base_frame_lengths =
    ReservedSubslot
    ∷ CLCHSubslot
    ∷ OngoingFrame
    ∷ Subslots1
    ∷ Subslots2
    ∷ Subslots3
    ∷ Subslots4
    ∷ Subslots5
    ∷ Subslots6
    ∷ Subslots8
    ∷ Subslots10
    ∷ Subslots12
    ∷ Subslots16
    ∷ Subslots20
    ∷ Subslots24
    ∷ []

-- the case of a field's bits, the low 4 of a number
unfoldable pub base_frame_length_of : ℕ → BaseFrameLength
base_frame_length_of v = get_or base_frame_lengths (v % 16) Subslots32

-- of a number, where it is one of 4 bits
abbrev pub base_frame_length_case : ℕ → Result BaseFrameLength NoCase
base_frame_length_case = case_up_to 15 base_frame_length_of

-- ---- the field

abbrev pub access_field_number : AccessField → ℕ
access_field_number f = access_code_number f.access_code * 16 + base_frame_length_number f.base_frame_len

unfoldable pub access_field_of : ℕ → AccessField
access_field_of v = record { access_code = access_code_of (v / 16 % 4); base_frame_len = base_frame_length_of (v % 16) }
