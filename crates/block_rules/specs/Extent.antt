-- Where a PDU ends. Document 01, "Block", "At bit p of N": by the bits left, the type, the length and the address type alone.
use Rattle.std.specs.Prelude.{◌⊎◌, Bool, cond, List, ℕ, ◌+◌, ◌*◌, ◌≤◌, ◌<◌, leb, ltb, eqb, length, take, drop}
use Rattle.bits.specs.Bits.{val}
use Rattle.tetra_core.specs.Refusal.{reason}
use Rattle.block_rules.specs.declared.extent.Extent.{Extent}
use Rattle.block_rules.specs.Numbers.{least_bits, second_slot_stolen, length_at, address_type_at}

-- the field of w bits from bit o on
unfoldable pub field : (o w : ℕ) → List Bool → ℕ
field o w bits = val (take w (drop o bits))

abbrev pub pdu_type : List Bool → ℕ
pdu_type bits = field 0 2 bits

abbrev pub length_field : List Bool → ℕ
length_field bits = field length_at 6 bits

abbrev pub address_type : List Bool → ℕ
address_type bits = field address_type_at 3 bits

-- a PDU that j refuses at the offset o, so that it has no end
abbrev pub unsized : (j o : ℕ) → Extent
unsized j o = Extent.Unsized (record { reason = reason j; offset = o })

-- "length 0 or 1: refused 8, end; otherwise the end is p + 8 × length; if that passes N by under 8 bits it is N; by 8 or more, refused 8,
-- end": where `left` bits are left to N, for a length of l octets whose field begins at bit o
unfoldable pub counted_extent : (left l o : ℕ) → Extent
counted_extent left l o =
    cond (ltb l 2) (unsized 8 o)
    (cond (leb (8 * l) left) (Extent.Sized (8 * l))
    (cond (ltb (8 * l) (left + 8)) (Extent.Sized left) (unsized 8 o)))

-- "length 62 or 63: the PDU runs to N"; "the block's 4, 8 and 12 give 0, 7 and the header's end"
unfoldable pub resource_extent : (left l : ℕ) → Extent
resource_extent left l = cond (leb second_slot_stolen l) (Extent.Sized left) (counted_extent left l length_at)

-- "fewer than 16 bits left: end; type not 0: refused 4, end; null address: null entry, end, its length unused"
unfoldable pub extent_of : (left type l address : ℕ) → Extent
extent_of left type l address =
    cond (ltb left least_bits) Extent.End
    (cond (eqb type 0) (cond (eqb address 0) (Extent.Null l) (resource_extent left l)) (unsized 4 0))

-- of the bits from p to N
unfoldable pub extent : List Bool → Extent
extent bits = extent_of (length bits) (pdu_type bits) (length_field bits) (address_type bits)

-- "sparing that PDU's type, length and address type", which "lie as in MAC-RESOURCE, also under refusal 4": the offsets, by the PDU's bits
abbrev pub Spared : List Bool → ℕ → Type 0
Spared bits i = (i < 2) ⊎ ((length_at ≤ i) × (i < least_bits))
