-- Addresses as words: address type 0 to 7, SSI kind (0 Ssi, 1 Issi, 2 Gssi), first number (SSI, USSI, SMI, or the label where it stands alone),
-- second number (label or marker); in the uplink address type 0 to 3, SSI kind, address number. What a case does not have is 0 when read and
-- not looked at when written.
use Rattle.std.specs.Prelude.{ℕ, min, List, [], ◌∷◌, Bool, true, false, get_or, ltb}
use Rattle.tetra_core.specs.declared.address.SsiType.{SsiType}
use Rattle.tetra_core.specs.declared.address.SsiType.TheVariants as Kind'
use Rattle.tetra_core.specs.declared.address.UplinkAddress.{UplinkAddress}
use Rattle.tetra_core.specs.declared.address.UplinkAddress.TheVariants as Uplink'
use Rattle.tetra_core.specs.declared.address.DownlinkAddress.{DownlinkAddress}
use Rattle.tetra_core.specs.declared.address.DownlinkAddress.TheVariants as Address'

-- ---- the kind of an SSI

abbrev pub ssi_kind : SsiType → ℕ
ssi_kind Kind'.Ssi = 0
ssi_kind Kind'.Issi = 1
ssi_kind Kind'.Gssi = 2

-- the kinds 0 and 1; what is known and neither of these is kind 2
abbrev pub ssi_kinds : List SsiType
ssi_kinds = Kind'.Ssi ∷ Kind'.Issi ∷ []

unfoldable pub ssi_of_kind : ℕ → SsiType
ssi_of_kind kind = get_or ssi_kinds kind Kind'.Gssi

-- ---- uplink addresses

abbrev pub uplink_kind : UplinkAddress → ℕ
uplink_kind (Uplink'.Ssi k v) = ssi_kind k
uplink_kind (Uplink'.EventLabel l) = 0
uplink_kind (Uplink'.Ussi v) = 0
uplink_kind (Uplink'.Smi v) = 0

-- for the types 0 to 3
abbrev pub uplink_knowns : ℕ → List Bool
uplink_knowns kind = ltb kind 3 ∷ true ∷ true ∷ true ∷ []

unfoldable pub uplink_known : ℕ → ℕ → Bool
uplink_known type kind = get_or (uplink_knowns kind) type false

-- the addresses of the types 0 to 2; what is known and none of these is type 3. A number too large for its type is taken as the largest
abbrev pub uplinks : ℕ → ℕ → List UplinkAddress
uplinks kind v = Uplink'.Ssi (ssi_of_kind kind) (min v 4294967295) ∷ Uplink'.EventLabel (min v 65535) ∷ Uplink'.Ussi (min v 4294967295) ∷ []

unfoldable pub uplink_value : ℕ → ℕ → ℕ → UplinkAddress
uplink_value type kind v = get_or (uplinks kind v) type (Uplink'.Smi (min v 4294967295))

-- ---- downlink addresses

abbrev pub address_kind : DownlinkAddress → ℕ
address_kind Address'.NullPdu = 0
address_kind (Address'.Ssi k v) = ssi_kind k
address_kind (Address'.EventLabel l) = 0
address_kind (Address'.Ussi v) = 0
address_kind (Address'.Smi v) = 0
address_kind (Address'.SsiAndEventLabel k v l) = ssi_kind k
address_kind (Address'.SsiAndUsageMarker k v m) = ssi_kind k
address_kind (Address'.SmiAndEventLabel v l) = 0

abbrev pub address_first : DownlinkAddress → ℕ
address_first Address'.NullPdu = 0
address_first (Address'.Ssi k v) = v
address_first (Address'.EventLabel l) = l
address_first (Address'.Ussi v) = v
address_first (Address'.Smi v) = v
address_first (Address'.SsiAndEventLabel k v l) = v
address_first (Address'.SsiAndUsageMarker k v m) = v
address_first (Address'.SmiAndEventLabel v l) = v

abbrev pub address_second : DownlinkAddress → ℕ
address_second Address'.NullPdu = 0
address_second (Address'.Ssi k v) = 0
address_second (Address'.EventLabel l) = 0
address_second (Address'.Ussi v) = 0
address_second (Address'.Smi v) = 0
address_second (Address'.SsiAndEventLabel k v l) = l
address_second (Address'.SsiAndUsageMarker k v m) = m
address_second (Address'.SmiAndEventLabel v l) = l

-- for the types 0 to 7
abbrev pub address_knowns : ℕ → List Bool
address_knowns kind = true ∷ ltb kind 3 ∷ true ∷ true ∷ true ∷ ltb kind 3 ∷ ltb kind 3 ∷ true ∷ []

unfoldable pub address_known : ℕ → ℕ → Bool
address_known type kind = get_or (address_knowns kind) type false

-- the addresses of the types 0 to 6; what is known and none of these is type 7
abbrev pub addresses : SsiType → ℕ → ℕ → List DownlinkAddress
addresses k a b =
    Address'.NullPdu
    ∷ Address'.Ssi k (min a 4294967295)
    ∷ Address'.EventLabel (min a 65535)
    ∷ Address'.Ussi (min a 4294967295)
    ∷ Address'.Smi (min a 4294967295)
    ∷ Address'.SsiAndEventLabel k (min a 4294967295) (min b 65535)
    ∷ Address'.SsiAndUsageMarker k (min a 4294967295) (min b 255)
    ∷ []

unfoldable pub address_value : ℕ → ℕ → ℕ → ℕ → DownlinkAddress
address_value type kind a b = get_or (addresses (ssi_of_kind kind) a b) type (Address'.SmiAndEventLabel (min a 4294967295) (min b 65535))
