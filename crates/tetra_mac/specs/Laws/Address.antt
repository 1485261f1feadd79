-- The words of an address are known and give it back.
use Rattle.std.specs.Prelude.{◌≤◌, ◌≡◌, refl, true, ltb}
use Rattle.tetra_core.specs.Address.{address_type, uplink_address_type}
use Rattle.tetra_core.specs.declared.address.SsiType.{SsiType}
use Rattle.tetra_core.specs.declared.address.SsiType.TheVariants as Kind'
use Rattle.tetra_core.specs.declared.address.UplinkAddress.{UplinkAddress}
use Rattle.tetra_core.specs.declared.address.UplinkAddress.TheVariants as Uplink'
use Rattle.tetra_core.specs.declared.address.DownlinkAddress.{DownlinkAddress}
use Rattle.tetra_core.specs.declared.address.DownlinkAddress.TheVariants as Address'
use Rattle.tetra_fields.specs.UplinkAddress.{uplink_number}
use Rattle.tetra_mac.specs.Address.{ssi_kind, ssi_of_kind, uplink_kind, uplink_known, uplink_value, address_kind, address_first, address_second, address_known, address_value}
use Rattle.tetra_mac.specs.Laws.Reply.{kept}

ssi_kept : (k : SsiType) → (ltb (ssi_kind k) 3 ≡ true) × (ssi_of_kind (ssi_kind k) ≡ k)
unfolding ssi_of_kind
ssi_kept Kind'.Ssi = (refl, refl)
ssi_kept Kind'.Issi = (refl, refl)
ssi_kept Kind'.Gssi = (refl, refl)

-- the numbers of an address are of the types of their fields
abbrev pub UplinkTyped : UplinkAddress → Type 0
UplinkTyped (Uplink'.Ssi k v) = v ≤ 4294967295
UplinkTyped (Uplink'.EventLabel l) = l ≤ 65535
UplinkTyped (Uplink'.Ussi v) = v ≤ 4294967295
UplinkTyped (Uplink'.Smi v) = v ≤ 4294967295

pub uplink_kept : (a : UplinkAddress) → UplinkTyped a
    → (uplink_known (uplink_address_type a) (uplink_kind a) ≡ true) × (uplink_value (uplink_address_type a) (uplink_kind a) (uplink_number a) ≡ a)
unfolding uplink_known uplink_value
uplink_kept (Uplink'.Ssi k v) h = ((ssi_kept k).0, rw ((ssi_kept k).1, kept v 4294967295 h))
uplink_kept (Uplink'.EventLabel l) h = (refl, rw (kept l 65535 h))
uplink_kept (Uplink'.Ussi v) h = (refl, rw (kept v 4294967295 h))
uplink_kept (Uplink'.Smi v) h = (refl, rw (kept v 4294967295 h))

abbrev pub AddressTyped : DownlinkAddress → Type 0
AddressTyped Address'.NullPdu = Unit {0}
AddressTyped (Address'.Ssi k v) = v ≤ 4294967295
AddressTyped (Address'.EventLabel l) = l ≤ 65535
AddressTyped (Address'.Ussi v) = v ≤ 4294967295
AddressTyped (Address'.Smi v) = v ≤ 4294967295
AddressTyped (Address'.SsiAndEventLabel k v l) = (v ≤ 4294967295) × (l ≤ 65535)
AddressTyped (Address'.SsiAndUsageMarker k v m) = (v ≤ 4294967295) × (m ≤ 255)
AddressTyped (Address'.SmiAndEventLabel v l) = (v ≤ 4294967295) × (l ≤ 65535)

pub address_kept : (a : DownlinkAddress) → AddressTyped a
    → (address_known (address_type a) (address_kind a) ≡ true) × (address_value (address_type a) (address_kind a) (address_first a) (address_second a) ≡ a)
unfolding address_known address_value
address_kept Address'.NullPdu h = (refl, refl)
address_kept (Address'.Ssi k v) h = ((ssi_kept k).0, rw ((ssi_kept k).1, kept v 4294967295 h))
address_kept (Address'.EventLabel l) h = (refl, rw (kept l 65535 h))
address_kept (Address'.Ussi v) h = (refl, rw (kept v 4294967295 h))
address_kept (Address'.Smi v) h = (refl, rw (kept v 4294967295 h))
address_kept (Address'.SsiAndEventLabel k v l) h = ((ssi_kept k).0, rw ((ssi_kept k).1, kept v 4294967295 h.0, kept l 65535 h.1))
address_kept (Address'.SsiAndUsageMarker k v m) h = ((ssi_kept k).0, rw ((ssi_kept k).1, kept v 4294967295 h.0, kept m 255 h.1))
address_kept (Address'.SmiAndEventLabel v l) h = (refl, rw (kept v 4294967295 h.0, kept l 65535 h.1))
