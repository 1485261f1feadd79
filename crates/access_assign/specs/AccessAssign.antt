-- ACCESS-ASSIGN (document 01): "Header 2, field one 6, field two 6. Header 0: two access fields .. Headers 1 and 2: downlink usage, access
-- field. Header 3: downlink usage, uplink usage."
use Rattle.std.specs.Prelude.{ℕ, ◌≡◌, List, [], ◌∷◌, Bool, false, eqb, Result, Err, Ok}
use Rattle.tetra_core.specs.Refusal.{number, first}
use Rattle.tetra_core.specs.declared.bitbuffer.Cursor.{Cursor}
use Rattle.tetra_core.specs.declared.bitbuffer.Read.{Read}
use Rattle.tetra_core.specs.declared.bitbuffer.Moved.{Moved}
use Rattle.tetra_core.specs.declared.refusal.Refusal.{Refusal}
use Rattle.codec.specs.Reader.{Out, got, refused, Reader, done, refuse, field, here, choose, parse, ◌>>=◌}
use Rattle.codec.specs.Header.{at_cursor}
use Rattle.codec.specs.Row.{Cell, cell, row_bits}
use Rattle.codec.specs.Write.{write_at, written_at}
use Rattle.access_assign.specs.AccessField.{access_field_number, access_field_of}
use Rattle.access_assign.specs.Usage.{dl_marker, dl_usage_of, dl_refusal, dl_is_traffic, ul_marker, marker_number, ul_marks, ul_usage_of, ul_refusal}
use Rattle.access_assign.specs.declared.enums.access_code.AccessCode.TheVariants.{AccessCodeA}
use Rattle.access_assign.specs.declared.structs.base_frame_length.BaseFrameLength.TheVariants.{Subslots4}
use Rattle.access_assign.specs.declared.structs.access_field.AccessField.{AccessField}
use Rattle.access_assign.specs.declared.access_assign.AccessAssign.{AccessAssign}
use Rattle.access_assign.specs.declared.access_assign.AccessAssign.TheVariants.{DownlinkCommonControlUplinkCommonOnly, DownlinkDefinedUplinkCommonAndAssigned, DownlinkDefinedUplinkAssignedOnly, DownlinkDefinedUplinkDefined}

-- ---- what is read

-- what the three fields say; field two begins at the offset `second`
unfoldable pub access_assign_of : ℕ → ℕ → ℕ → ℕ → Reader AccessAssign
access_assign_of header one two second =
    choose (eqb header 0) (done (DownlinkCommonControlUplinkCommonOnly (access_field_of one) (access_field_of two)))
    (choose (eqb header 1) (done (DownlinkDefinedUplinkCommonAndAssigned (dl_usage_of one) (access_field_of two)))
    (choose (eqb header 2) (done (DownlinkDefinedUplinkAssignedOnly (dl_usage_of one) (access_field_of two)))
    (choose (ul_marks two) (done (DownlinkDefinedUplinkDefined (dl_usage_of one) (ul_usage_of two))) (refuse 7 second))))

-- all three fields are there before any is judged
unfoldable pub read_access_assign : Reader AccessAssign
read_access_assign = do
  header ← field 2 done
  one ← field 6 done
  second ← here done
  two ← field 6 done
  access_assign_of header one two second

-- the bits of all three fields
abbrev pub assign_size : ℕ
assign_size = 14

-- what these fields say, whatever bits follow them
abbrev pub said : Result AccessAssign Refusal → List Bool → ℕ → Out AccessAssign
said (Ok a) rest n = got a rest n
said (Err r) rest n = refused (number r.reason) r.offset

-- the answer r is what these fields say, of which the second begins at an offset
abbrev pub Says : ℕ → ℕ → ℕ → ℕ → Result AccessAssign Refusal → Type 0
Says header one two second r = (rest : List Bool) (n : ℕ) → said r rest n ≡ parse (access_assign_of header one two second) rest n

unfoldable pub access_assign_at : List ℕ → Cursor → Read AccessAssign
access_assign_at = at_cursor read_access_assign

-- ---- what is written

abbrev pub header_number : AccessAssign → ℕ
header_number (DownlinkCommonControlUplinkCommonOnly f g) = 0
header_number (DownlinkDefinedUplinkCommonAndAssigned d f) = 1
header_number (DownlinkDefinedUplinkAssignedOnly d f) = 2
header_number (DownlinkDefinedUplinkDefined d u) = 3

abbrev pub field_one : AccessAssign → ℕ
field_one (DownlinkCommonControlUplinkCommonOnly f g) = access_field_number f
field_one (DownlinkDefinedUplinkCommonAndAssigned d f) = dl_marker d
field_one (DownlinkDefinedUplinkAssignedOnly d f) = dl_marker d
field_one (DownlinkDefinedUplinkDefined d u) = dl_marker d

abbrev pub field_two : AccessAssign → ℕ
field_two (DownlinkCommonControlUplinkCommonOnly f g) = access_field_number g
field_two (DownlinkDefinedUplinkCommonAndAssigned d f) = access_field_number f
field_two (DownlinkDefinedUplinkAssignedOnly d f) = access_field_number f
field_two (DownlinkDefinedUplinkDefined d u) = marker_number (ul_marker u)

-- field one before field two; an access field is never refused
abbrev pub access_assign_refusal : AccessAssign → ℕ
access_assign_refusal (DownlinkCommonControlUplinkCommonOnly f g) = 0
access_assign_refusal (DownlinkDefinedUplinkCommonAndAssigned d f) = dl_refusal d
access_assign_refusal (DownlinkDefinedUplinkAssignedOnly d f) = dl_refusal d
access_assign_refusal (DownlinkDefinedUplinkDefined d u) = first (dl_refusal d ∷ ul_refusal u ∷ [])

unfoldable pub access_assign_row : AccessAssign → List Cell
access_assign_row a = cell 2 (header_number a) ∷ cell 6 (field_one a) ∷ cell 6 (field_two a) ∷ []

abbrev pub access_assign_write : List ℕ → Cursor → AccessAssign → Moved
access_assign_write s c a = write_at s c (access_assign_refusal a) (row_bits (access_assign_row a))

abbrev pub access_assign_written : List ℕ → Cursor → AccessAssign → List ℕ
access_assign_written s c a = written_at s c (access_assign_refusal a) (row_bits (access_assign_row a))

-- ---- the default, and whether the downlink is traffic

abbrev pub default_field : AccessField
default_field = record { access_code = AccessCodeA; base_frame_len = Subslots4 }

abbrev pub default_access_assign : AccessAssign
default_access_assign = DownlinkCommonControlUplinkCommonOnly default_field default_field

abbrev pub is_dl_traffic : AccessAssign → Bool
is_dl_traffic (DownlinkCommonControlUplinkCommonOnly f g) = false
is_dl_traffic (DownlinkDefinedUplinkCommonAndAssigned d f) = dl_is_traffic d
is_dl_traffic (DownlinkDefinedUplinkAssignedOnly d f) = dl_is_traffic d
is_dl_traffic (DownlinkDefinedUplinkDefined d u) = dl_is_traffic d
