-- An access field has 6 bits: its number gives the field again, and each of the 64 numbers is that of its field.
use Rattle.std.specs.Prelude.{ℕ, ◌<◌, ◌≡◌, refl}
use Rattle.std.proofs.Common.{arith, mod-eq_of_lt, lit<}
use Rattle.std.proofs.Math.Pow.{high, low}
use Rattle.codec.proofs.Laws.AllBelow.{numbers}
use Rattle.access_assign.specs.AccessField.{access_code_number, access_code_of, base_frame_length_number, base_frame_length_of, access_field_number, access_field_of}
use Rattle.access_assign.specs.declared.enums.access_code.AccessCode.{AccessCode}
use Rattle.access_assign.specs.declared.enums.access_code.AccessCode.TheVariants.{AccessCodeA, AccessCodeB, AccessCodeC, AccessCodeD}
use Rattle.access_assign.specs.declared.structs.base_frame_length.BaseFrameLength.{BaseFrameLength}
use Rattle.access_assign.specs.declared.structs.base_frame_length.BaseFrameLength.TheVariants.{ReservedSubslot, CLCHSubslot, OngoingFrame, Subslots1, Subslots2, Subslots3, Subslots4, Subslots5, Subslots6, Subslots8, Subslots10, Subslots12, Subslots16, Subslots20, Subslots24, Subslots32}
use Rattle.access_assign.specs.declared.structs.access_field.AccessField.{AccessField}

pub access_code-back : (a : AccessCode) → (access_code_number a < 4) × (access_code_of (access_code_number a) ≡ a)
unfolding access_code_of
access_code-back AccessCodeA = (lit< tt, refl)
access_code-back AccessCodeB = (lit< tt, refl)
access_code-back AccessCodeC = (lit< tt, refl)
access_code-back AccessCodeD = (lit< tt, refl)

pub base_frame_length-back : (l : BaseFrameLength) → (base_frame_length_number l < 16) × (base_frame_length_of (base_frame_length_number l) ≡ l)
unfolding base_frame_length_of
base_frame_length-back ReservedSubslot = (lit< tt, refl)
base_frame_length-back CLCHSubslot = (lit< tt, refl)
base_frame_length-back OngoingFrame = (lit< tt, refl)
base_frame_length-back Subslots1 = (lit< tt, refl)
base_frame_length-back Subslots2 = (lit< tt, refl)
base_frame_length-back Subslots3 = (lit< tt, refl)
base_frame_length-back Subslots4 = (lit< tt, refl)
base_frame_length-back Subslots5 = (lit< tt, refl)
base_frame_length-back Subslots6 = (lit< tt, refl)
base_frame_length-back Subslots8 = (lit< tt, refl)
base_frame_length-back Subslots10 = (lit< tt, refl)
base_frame_length-back Subslots12 = (lit< tt, refl)
base_frame_length-back Subslots16 = (lit< tt, refl)
base_frame_length-back Subslots20 = (lit< tt, refl)
base_frame_length-back Subslots24 = (lit< tt, refl)
base_frame_length-back Subslots32 = (lit< tt, refl)

pub access_field-back : (f : AccessField) → (access_field_number f < 64) × (access_field_of (access_field_number f) ≡ f)
unfolding access_field_of
access_field-back f =
    let c = access_code-back f.access_code in
    let l = base_frame_length-back f.base_frame_len in
    (omega (arith, c.0, l.0), rw (high _ 4 l.0, low _ 4 l.0, mod-eq_of_lt c.0, c.1, l.1))

pub access_field-again : (v : ℕ) → v < 64 → access_field_number (access_field_of v) ≡ v
unfolding access_field_of access_code_of base_frame_length_of
access_field-again = numbers access_field_number access_field_of 64 refl
