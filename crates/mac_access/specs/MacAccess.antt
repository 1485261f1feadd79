-- MAC-ACCESS (document 01): "Type 1 (0), fill 1, encrypted 1, address type 2 (0 SSI, 1 label, 2 USSI, 3 SMI), address, option flag 1; if set,
-- selector 1: 0 and length 5, or 1, fragment 1, reservation 4."
use Rattle.std.specs.Prelude.{ℕ, ◌+◌, List, [], ◌∷◌, ◌++◌, Bool, false, eqb, leb}
use Rattle.bits.specs.Bits.{digit}
use Rattle.tetra_core.specs.Refusal.{unless}
use Rattle.tetra_core.specs.declared.bitbuffer.Cursor.{Cursor}
use Rattle.tetra_core.specs.declared.bitbuffer.Read.{Read}
use Rattle.tetra_core.specs.declared.bitbuffer.Moved.{Moved}
use Rattle.codec.specs.Reader.{Reader, done, field, choose, ◌>>=◌}
use Rattle.codec.specs.Header.{at_cursor}
use Rattle.codec.specs.Row.{Cell, cell, size, row_bits}
use Rattle.codec.specs.Write.{write_at, written_at}
use Rattle.codec.specs.Cases.{flag}
use Rattle.tetra_fields.specs.ReservationRequirement.{reservation_number, reservation_of}
use Rattle.tetra_fields.specs.UplinkHead.{head_most, read_uplink_head, uplink_refusal, uplink_row, uplink_size, normal_head}
use Rattle.tetra_fields.specs.declared.fields.uplink_head.UplinkHead.{UplinkHead}
use Rattle.mac_access.specs.declared.mac_access.MacAccessOption.{MacAccessOption}
use Rattle.mac_access.specs.declared.mac_access.MacAccessOption.TheVariants.{Without, LengthInd, CapacityRequest}
use Rattle.mac_access.specs.declared.mac_access.MacAccess.{MacAccess}

-- the bits behind a set option flag; the most with it; the most of a MAC-ACCESS
abbrev pub chosen_size : ℕ
chosen_size = 6

abbrev pub option_most : ℕ
option_most = 1 + chosen_size

abbrev pub access_most : ℕ
access_most = head_most + option_most

-- what every header has, and the whole
abbrev pub head_of : MacAccess → UplinkHead
head_of h = record { fill_bits = h.fill_bits; encrypted = h.encrypted; addr = h.addr }

abbrev pub mac_access_of : UplinkHead → MacAccessOption → MacAccess
mac_access_of head option = record { fill_bits = head.fill_bits; encrypted = head.encrypted; addr = head.addr; option = option }

-- ---- what is read

unfoldable pub read_request : Reader MacAccessOption
read_request = do
  frag ← field 1 done
  reservation ← field 4 done
  done (CapacityRequest (flag frag) (reservation_of reservation))

-- what follows a set option flag
unfoldable pub read_chosen : Reader MacAccessOption
read_chosen = do
  selector ← field 1 done
  choose (eqb selector 0)
      (do
        length ← field 5 done
        done (LengthInd length))
      read_request

unfoldable pub read_option : Reader MacAccessOption
read_option = do
  option ← field 1 done
  choose (eqb option 0) (done Without) read_chosen

unfoldable pub read_mac_access : Reader MacAccess
read_mac_access = do
  head ← read_uplink_head 1
  option ← read_option
  done (mac_access_of head option)

-- the same at a cursor
unfoldable pub mac_access_at : List ℕ → Cursor → Read MacAccess
mac_access_at = at_cursor read_mac_access

-- a length of 0 marks a null PDU, and a fragment flag the first fragment
abbrev pub is_null_pdu : MacAccessOption → Bool
is_null_pdu Without = false
is_null_pdu (LengthInd n) = eqb n 0
is_null_pdu (CapacityRequest f q) = false

abbrev pub is_frag_start : MacAccessOption → Bool
is_frag_start Without = false
is_frag_start (LengthInd n) = false
is_frag_start (CapacityRequest f q) = f

-- ---- what is written

-- "value wider than its field"
abbrev pub option_refusal : MacAccessOption → ℕ
option_refusal Without = 0
option_refusal (LengthInd n) = unless (leb n 31) 3
option_refusal (CapacityRequest f q) = 0

-- encryption 10, then address and length 3
unfoldable pub mac_access_refusal : MacAccess → ℕ
mac_access_refusal h = uplink_refusal h.encrypted h.addr (option_refusal h.option)

abbrev pub option_row : MacAccessOption → List Cell
option_row Without = cell 1 0 ∷ []
option_row (LengthInd n) = cell 1 1 ∷ cell 1 0 ∷ cell 5 n ∷ []
option_row (CapacityRequest f q) = cell 1 1 ∷ cell 1 1 ∷ cell 1 (digit f) ∷ cell 4 (reservation_number q) ∷ []

unfoldable pub mac_access_row : MacAccess → List Cell
mac_access_row h = uplink_row 1 (head_of h) ++ option_row h.option

unfoldable pub mac_access_size : MacAccess → ℕ
mac_access_size h = uplink_size 1 h.addr + size (option_row h.option)

abbrev pub mac_access_write : List ℕ → Cursor → MacAccess → Moved
mac_access_write s c h = write_at s c (mac_access_refusal h) (row_bits (mac_access_row h))

abbrev pub mac_access_written : List ℕ → Cursor → MacAccess → List ℕ
mac_access_written s c h = written_at s c (mac_access_refusal h) (row_bits (mac_access_row h))

-- what was written, as it is read: "SSI kind becomes .. Issi in uplink"
abbrev pub normal : MacAccess → MacAccess
normal h = mac_access_of (normal_head (head_of h)) h.option
