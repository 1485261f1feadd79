-- The code of each address case. Clause 21.4.3.1, table of MAC-RESOURCE, and 21.4.2.1, 21.4.2.3 for the uplink.
use Rattle.std.specs.Prelude.{ℕ}
use Rattle.tetra_core.specs.declared.address.SsiType.{SsiType}
use Rattle.tetra_core.specs.declared.address.DownlinkAddress.{DownlinkAddress}
use Rattle.tetra_core.specs.declared.address.DownlinkAddress.TheVariants as Address'
use Rattle.tetra_core.specs.declared.address.UplinkAddress.{UplinkAddress}
use Rattle.tetra_core.specs.declared.address.UplinkAddress.TheVariants as Uplink'

-- "0 null, nothing more; 1 SSI; 2 event label; 3 USSI; 4 SMI; 5 SSI, label; 6 SSI, usage marker; 7 SMI, label"
abbrev pub address_type : DownlinkAddress → ℕ
address_type Address'.NullPdu = 0
address_type (Address'.Ssi k v) = 1
address_type (Address'.EventLabel l) = 2
address_type (Address'.Ussi v) = 3
address_type (Address'.Smi v) = 4
address_type (Address'.SsiAndEventLabel k v l) = 5
address_type (Address'.SsiAndUsageMarker k v m) = 6
address_type (Address'.SmiAndEventLabel v l) = 7

-- "address type 2 (0 SSI, 1 label, 2 USSI, 3 SMI)"
abbrev pub uplink_address_type : UplinkAddress → ℕ
uplink_address_type (Uplink'.Ssi k v) = 0
uplink_address_type (Uplink'.EventLabel l) = 1
uplink_address_type (Uplink'.Ussi v) = 2
uplink_address_type (Uplink'.Smi v) = 3

-- an SSI of a kind, alone
abbrev pub ssi_address : ℕ → SsiType → DownlinkAddress
ssi_address v k = Address'.Ssi k v

abbrev pub uplink_ssi_address : ℕ → SsiType → UplinkAddress
uplink_ssi_address v k = Uplink'.Ssi k v
