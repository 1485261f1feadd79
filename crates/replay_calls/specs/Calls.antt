-- The number that the list of recorded answers has for each call.
use Rattle.std.specs.Prelude.{◌≡◌, ◌≢◌, ℕ, ◌+◌, Result, MatchResult}
use Rattle.replay_calls.specs.declared.calls.Call.{Call}
use Rattle.replay_calls.specs.declared.calls.Call.TheVariants as Call'
use Rattle.replay_calls.specs.declared.calls.UnknownCall.{UnknownCall}
use Rattle.replay_calls.specs.declared.header_calls.Kind.{Kind}
use Rattle.replay_calls.specs.declared.header_calls.Kind.TheVariants as Kind'
use Rattle.replay_calls.specs.declared.header_calls.BitsCall.{BitsCall}
use Rattle.replay_calls.specs.declared.header_calls.BitsCall.TheVariants as BitsCall'
use Rattle.replay_calls.specs.declared.header_calls.LengthCall.{LengthCall}
use Rattle.replay_calls.specs.declared.header_calls.LengthCall.TheVariants as LengthCall'
use Rattle.replay_calls.specs.declared.bit_calls.WindowCall.{WindowCall}
use Rattle.replay_calls.specs.declared.bit_calls.WindowCall.TheVariants as WindowCall'
use Rattle.replay_calls.specs.declared.write_calls.WriteCall.{WriteCall}
use Rattle.replay_calls.specs.declared.write_calls.WriteCall.TheVariants as WriteCall'
use Rattle.replay_calls.specs.declared.split_calls.SplitCall.{SplitCall}
use Rattle.replay_calls.specs.declared.split_calls.SplitCall.TheVariants as SplitCall'
use Rattle.replay_calls.specs.declared.codes.CodeCall.{CodeCall}
use Rattle.replay_calls.specs.declared.codes.CodeCall.TheVariants as CodeCall'
use Rattle.replay_calls.specs.declared.addresses.AddressCall.{AddressCall}
use Rattle.replay_calls.specs.declared.addresses.AddressCall.TheVariants as AddressCall'
use Rattle.replay_calls.specs.declared.usages.UsageCall.{UsageCall}
use Rattle.replay_calls.specs.declared.usages.UsageCall.TheVariants as UsageCall'
use Rattle.replay_calls.specs.declared.headers.HeaderCall.{HeaderCall}
use Rattle.replay_calls.specs.declared.headers.HeaderCall.TheVariants as HeaderCall'
use Rattle.replay_calls.specs.declared.block_calls.BlockCall.{BlockCall}
use Rattle.replay_calls.specs.declared.block_calls.BlockCall.TheVariants as BlockCall'

-- r is the call that has the number n, or an error where none has it
abbrev pub Decodes : {C : Type 0} → (C → ℕ) → ℕ → Result C UnknownCall → Type 0
Decodes number n r = MatchResult r (λ c. number c ≡ n) (λ _. (c : _) → number c ≢ n)

abbrev pub kind_number : Kind → ℕ
kind_number Kind'.SlotGrant = 0
kind_number Kind'.ChannelAllocation = 1
kind_number Kind'.MacResource = 2
kind_number Kind'.AccessAssign = 3
kind_number Kind'.MacAccess = 4
kind_number Kind'.MacData = 5

abbrev pub bits_number : BitsCall → ℕ
bits_number BitsCall'.ReadBits = 32
bits_number BitsCall'.PeekBitsPosoffset = 33
bits_number BitsCall'.WriteBits = 34

abbrev pub length_number : LengthCall → ℕ
length_number LengthCall'.ComputeLen = 40
length_number LengthCall'.ComputeHeaderLen = 41
length_number LengthCall'.UpdateLenAndFillInd = 42

abbrev pub window_number : WindowCall → ℕ
window_number WindowCall'.ReadBit = 48
window_number WindowCall'.PeekBits = 49
window_number WindowCall'.PeekBitsStartoffset = 50
window_number WindowCall'.GetLen = 51
window_number WindowCall'.GetLenRemaining = 52
window_number WindowCall'.GetLenWritten = 53
window_number WindowCall'.GetPos = 54
window_number WindowCall'.GetRawStart = 55
window_number WindowCall'.GetRawEnd = 56
window_number WindowCall'.GetRawPos = 57
window_number WindowCall'.New = 58
window_number WindowCall'.FromBytes = 59
window_number WindowCall'.Seek = 60
window_number WindowCall'.SeekRel = 61
window_number WindowCall'.SetRawStart = 62
window_number WindowCall'.SetRawEnd = 63
window_number WindowCall'.SetRawPos = 64

abbrev pub write_number : WriteCall → ℕ
write_number WriteCall'.WriteBit = 68
write_number WriteCall'.WriteZeroes = 69
write_number WriteCall'.WriteOnes = 70

abbrev pub split_number : SplitCall → ℕ
split_number SplitCall'.ReadBitsIntoSlice = 72
split_number SplitCall'.ToBitarr = 73
split_number SplitCall'.CopyBits = 74
split_number SplitCall'.CopyBitsFromBitarr = 75
split_number SplitCall'.IntoBitvec = 76

abbrev pub code_number : CodeCall → ℕ
code_number CodeCall'.Capacity = 80
code_number CodeCall'.GrantingDelay = 81
code_number CodeCall'.DelayCount = 82
code_number CodeCall'.Reservation = 83
code_number CodeCall'.ReservationFor = 84
code_number CodeCall'.AccessCode = 85
code_number CodeCall'.BaseFrameLength = 86
code_number CodeCall'.AccessField = 87
code_number CodeCall'.AddressType = 88
code_number CodeCall'.CapacityFor = 89
code_number CodeCall'.Granted = 90

abbrev pub address_number : AddressCall → ℕ
address_number AddressCall'.DownlinkNew = 91
address_number AddressCall'.DownlinkIssi = 92
address_number AddressCall'.UplinkNew = 93
address_number AddressCall'.UplinkIssi = 94

abbrev pub usage_number : UsageCall → ℕ
usage_number UsageCall'.FromUsageMarker = 0
usage_number UsageCall'.ToUsageMarker = 1
usage_number UsageCall'.IsTraffic = 2
usage_number UsageCall'.GetTchan = 3

abbrev pub header_number : HeaderCall → ℕ
header_number HeaderCall'.DlIsTraffic = 104
header_number HeaderCall'.AccessIsNullPduIsFragStart = 105
header_number HeaderCall'.ResourceIsNullPdu = 106
header_number HeaderCall'.AssignDefault = 107
header_number HeaderCall'.NullPdu = 108
header_number HeaderCall'.Constants = 109
header_number HeaderCall'.ResourceDefault = 110

abbrev pub block_number : BlockCall → ℕ
block_number BlockCall'.Step = 112
block_number BlockCall'.Add = 113
block_number BlockCall'.Finish = 114

abbrev pub call_number : Call → ℕ
call_number (Call'.Read kind) = kind_number kind
call_number (Call'.Write kind) = 16 + kind_number kind
call_number (Call'.Bits call) = bits_number call
call_number (Call'.Length call) = length_number call
call_number (Call'.Window call) = window_number call
call_number (Call'.WriteSlice call) = write_number call
call_number (Call'.Split call) = split_number call
call_number (Call'.Code call) = code_number call
call_number (Call'.Address call) = address_number call
call_number (Call'.DownlinkUsage call) = 96 + usage_number call
call_number (Call'.UplinkUsage call) = 100 + usage_number call
call_number (Call'.Header call) = header_number call
call_number (Call'.Block call) = block_number call
