-- The MAC-DATA as a record of 8 words: that of a MAC-ACCESS with the same address and option, which is 1 or 2.
use Rattle.std.specs.Prelude.{ℕ, List, Bool, ◌&&◌, Option}
use Rattle.tetra_core.specs.declared.bitbuffer.Cursor.{Cursor}
use Rattle.codec.specs.Cases.{flag}
use Rattle.mac_access.specs.declared.mac_access.MacAccess.{MacAccess}
use Rattle.mac_access.specs.declared.mac_access.MacAccessOption.{MacAccessOption}
use Rattle.mac_access.specs.declared.mac_access.MacAccessOption.TheVariants as Access'
use Rattle.mac_data.specs.MacData.{mac_data_at, mac_data_write, mac_data_written}
use Rattle.mac_data.specs.declared.mac_data.MacData.{MacData}
use Rattle.mac_data.specs.declared.mac_data.MacDataOption.{MacDataOption}
use Rattle.mac_data.specs.declared.mac_data.MacDataOption.TheVariants as Data'
use Rattle.tetra_mac.specs.Reply.{Reply, WriteReply, header_read_reply, write_reply, value_if, word}
use Rattle.tetra_mac.specs.MacAccess.{mac_access_words, mac_access_known, mac_access_value}

abbrev pub access_option : MacDataOption → MacAccessOption
access_option (Data'.LengthInd n) = Access'.LengthInd n
access_option (Data'.CapacityRequest f q) = Access'.CapacityRequest f q

-- a MAC-DATA is never without an option: mac_data_known shuts the first case out
abbrev pub data_option : MacAccessOption → MacDataOption
data_option Access'.Without = Data'.LengthInd 0
data_option (Access'.LengthInd n) = Data'.LengthInd n
data_option (Access'.CapacityRequest f q) = Data'.CapacityRequest f q

abbrev pub as_access : MacData → MacAccess
as_access h = record { fill_bits = h.fill_bits; encrypted = h.encrypted; addr = h.addr; option = access_option h.option }

abbrev pub as_data : MacAccess → MacData
as_data h = record { fill_bits = h.fill_bits; encrypted = h.encrypted; addr = h.addr; option = data_option h.option }

-- ---- the words of a MAC-DATA, and the MAC-DATA of words

abbrev pub mac_data_words : MacData → List ℕ
mac_data_words h = mac_access_words (as_access h)

unfoldable pub mac_data_known : List ℕ → Bool
mac_data_known ws = mac_access_known ws && flag (word ws 5)

abbrev pub mac_data_of_words : List ℕ → Option MacData
mac_data_of_words ws = value_if (mac_data_known ws) (as_data (mac_access_value ws))

-- ---- the calls

abbrev pub mac_data_read_reply : List ℕ → Cursor → List ℕ → Reply
mac_data_read_reply s c out = header_read_reply mac_data_words 9 (mac_data_at s c) out

abbrev pub mac_data_write_reply : List ℕ → Cursor → List ℕ → List ℕ → WriteReply
mac_data_write_reply s c ws out = write_reply (mac_data_write s c) (mac_data_written s c) s (mac_data_of_words ws) out
