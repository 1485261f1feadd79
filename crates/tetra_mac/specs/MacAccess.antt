-- The MAC-ACCESS as a record of 8 words: fill bits, encrypted, address type 0 to 3, SSI kind, address number, option (0 none, 1 length, 2
-- capacity request), length or fragment flag, reservation code 0 to 15.
use Rattle.std.specs.Prelude.{ℕ, min, List, [], ◌∷◌, Bool, true, false, ◌&&◌, length, get_or, leb, ltb, Option}
use Rattle.tetra_core.specs.Address.{uplink_address_type}
use Rattle.bits.specs.Bits.{digit}
use Rattle.tetra_core.specs.declared.bitbuffer.Cursor.{Cursor}
use Rattle.codec.specs.Cases.{flag}
use Rattle.tetra_fields.specs.ReservationRequirement.{reservation_number, reservation_of}
use Rattle.tetra_fields.specs.UplinkAddress.{uplink_number}
use Rattle.mac_access.specs.MacAccess.{mac_access_at, mac_access_write, mac_access_written}
use Rattle.mac_access.specs.declared.mac_access.MacAccessOption.{MacAccessOption}
use Rattle.mac_access.specs.declared.mac_access.MacAccessOption.TheVariants.{Without, LengthInd, CapacityRequest}
use Rattle.mac_access.specs.declared.mac_access.MacAccess.{MacAccess}
use Rattle.tetra_mac.specs.Reply.{Reply, WriteReply, header_read_reply, write_reply, value_if, word}
use Rattle.tetra_mac.specs.Address.{uplink_kind, uplink_known, uplink_value}

-- ---- the words of a MAC-ACCESS

abbrev pub option_kind : MacAccessOption → ℕ
option_kind Without = 0
option_kind (LengthInd n) = 1
option_kind (CapacityRequest f q) = 2

abbrev pub option_first : MacAccessOption → ℕ
option_first Without = 0
option_first (LengthInd n) = n
option_first (CapacityRequest f q) = digit f

abbrev pub option_reservation : MacAccessOption → ℕ
option_reservation Without = 0
option_reservation (LengthInd n) = 0
option_reservation (CapacityRequest f q) = reservation_number q

abbrev pub mac_access_words : MacAccess → List ℕ
mac_access_words h =
    digit h.fill_bits
    ∷ digit h.encrypted
    ∷ uplink_address_type h.addr
    ∷ uplink_kind h.addr
    ∷ uplink_number h.addr
    ∷ option_kind h.option
    ∷ option_first h.option
    ∷ option_reservation h.option
    ∷ []

-- ---- the MAC-ACCESS of words

-- for the options 0 to 2
abbrev pub option_knowns : ℕ → List Bool
option_knowns reservation = true ∷ true ∷ ltb reservation 16 ∷ []

unfoldable pub option_known : ℕ → ℕ → Bool
option_known option reservation = get_or (option_knowns reservation) option false

unfoldable pub mac_access_known : List ℕ → Bool
mac_access_known ws = leb 8 (length ws) && (uplink_known (word ws 2) (word ws 3) && option_known (word ws 5) (word ws 7))

-- the options 0 and 1; what is known and neither of these is option 2, a capacity request
abbrev pub options : ℕ → List MacAccessOption
options v = Without ∷ LengthInd (min v 255) ∷ []

unfoldable pub option_value : ℕ → ℕ → ℕ → MacAccessOption
option_value option v reservation = get_or (options v) option (CapacityRequest (flag v) (reservation_of reservation))

unfoldable pub mac_access_value : List ℕ → MacAccess
mac_access_value ws =
    record {
      fill_bits = flag (word ws 0);
      encrypted = flag (word ws 1);
      addr = uplink_value (word ws 2) (word ws 3) (word ws 4);
      option = option_value (word ws 5) (word ws 6) (word ws 7);
    }

abbrev pub mac_access_of_words : List ℕ → Option MacAccess
mac_access_of_words ws = value_if (mac_access_known ws) (mac_access_value ws)

-- ---- the calls

abbrev pub mac_access_read_reply : List ℕ → Cursor → List ℕ → Reply
mac_access_read_reply s c out = header_read_reply mac_access_words 9 (mac_access_at s c) out

abbrev pub mac_access_write_reply : List ℕ → Cursor → List ℕ → List ℕ → WriteReply
mac_access_write_reply s c ws out = write_reply (mac_access_write s c) (mac_access_written s c) s (mac_access_of_words ws) out
