-- MAC-DATA (document 01): "Type 2 (0), fill 1, encrypted 1, address as above, selector 1: 0 and length 6, or 1, fragment 1, reservation 4, reserved
-- 1. The reserved bit is written 0, read as either."
use Rattle.std.specs.Prelude.{ℕ, ◌+◌, ◌-◌, List, [], ◌∷◌, ◌++◌, Bool, false, length, get_or, eqb, leb}
use Rattle.bits.specs.Bits.{digit}
use Rattle.tetra_core.specs.Refusal.{unless}
use Rattle.tetra_core.specs.declared.bitbuffer.Cursor.{Cursor}
use Rattle.tetra_core.specs.declared.bitbuffer.Read.{Read}
use Rattle.tetra_core.specs.declared.bitbuffer.Moved.{Moved}
use Rattle.codec.specs.Reader.{Reader, done, field, choose, ◌>>=◌}
use Rattle.codec.specs.Header.{at_cursor}
use Rattle.codec.specs.Row.{Cell, cell, row_bits}
use Rattle.codec.specs.Write.{write_at, written_at}
use Rattle.codec.specs.Cases.{flag}
use Rattle.tetra_fields.specs.ReservationRequirement.{reservation_number, reservation_of}
use Rattle.tetra_fields.specs.UplinkHead.{head_most, read_uplink_head, uplink_refusal, uplink_row, uplink_size, normal_head}
use Rattle.tetra_fields.specs.declared.fields.uplink_head.UplinkHead.{UplinkHead}
use Rattle.mac_data.specs.declared.mac_data.MacDataOption.{MacDataOption}
use Rattle.mac_data.specs.declared.mac_data.MacDataOption.TheVariants.{LengthInd, CapacityRequest}
use Rattle.mac_data.specs.declared.mac_data.MacData.{MacData}

-- the bits behind the address, and the most bits of a MAC-DATA
abbrev pub option_size : ℕ
option_size = 7

abbrev pub data_most : ℕ
data_most = head_most + option_size

-- what every header has, and the whole
abbrev pub head_of : MacData → UplinkHead
head_of h = record { fill_bits = h.fill_bits; encrypted = h.encrypted; addr = h.addr }

abbrev pub mac_data_of : UplinkHead → MacDataOption → MacData
mac_data_of head option = record { fill_bits = head.fill_bits; encrypted = head.encrypted; addr = head.addr; option = option }

-- ---- what is read

unfoldable pub read_request : Reader MacDataOption
read_request = do
  frag ← field 1 done
  reservation ← field 4 done
  reserved ← field 1 done
  done (CapacityRequest (flag frag) (reservation_of reservation))

unfoldable pub read_option : Reader MacDataOption
read_option = do
  selector ← field 1 done
  choose (eqb selector 0)
      (do
        length ← field 6 done
        done (LengthInd length))
      read_request

unfoldable pub read_mac_data : Reader MacData
read_mac_data = do
  head ← read_uplink_head 2
  option ← read_option
  done (mac_data_of head option)

-- the same at a cursor
unfoldable pub mac_data_at : List ℕ → Cursor → Read MacData
mac_data_at = at_cursor read_mac_data

-- ---- what is written

-- "value wider than its field"
abbrev pub option_refusal : MacDataOption → ℕ
option_refusal (LengthInd n) = unless (leb n 63) 3
option_refusal (CapacityRequest f q) = 0

-- encryption 10, then address and length 3
unfoldable pub mac_data_refusal : MacData → ℕ
mac_data_refusal h = uplink_refusal h.encrypted h.addr (option_refusal h.option)

abbrev pub option_row : MacDataOption → List Cell
option_row (LengthInd n) = cell 1 0 ∷ cell 6 n ∷ []
option_row (CapacityRequest f q) = cell 1 1 ∷ cell 1 (digit f) ∷ cell 4 (reservation_number q) ∷ cell 1 0 ∷ []

unfoldable pub mac_data_row : MacData → List Cell
mac_data_row h = uplink_row 2 (head_of h) ++ option_row h.option

unfoldable pub mac_data_size : MacData → ℕ
mac_data_size h = uplink_size 2 h.addr + option_size

abbrev pub mac_data_write : List ℕ → Cursor → MacData → Moved
mac_data_write s c h = write_at s c (mac_data_refusal h) (row_bits (mac_data_row h))

abbrev pub mac_data_written : List ℕ → Cursor → MacData → List ℕ
mac_data_written s c h = written_at s c (mac_data_refusal h) (row_bits (mac_data_row h))

-- what was written, as it is read: "SSI kind becomes .. Issi in uplink"
abbrev pub normal : MacData → MacData
normal h = mac_data_of (normal_head (head_of h)) h.option

-- the reserved bit of a header that is these bits: their last one, where there is one
abbrev pub reserved_bit : MacDataOption → List Bool → Bool
reserved_bit (LengthInd n) bs = false
reserved_bit (CapacityRequest f q) bs = get_or bs (length bs - 1) false
