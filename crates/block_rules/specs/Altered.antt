-- "Whatever bits anybody puts into one PDU of a downlink block, sparing that PDU's type, length and address type", and into several.
use Rattle.std.specs.Prelude.{◌≡◌, ◌⊎◌, Bool, true, false, List, ℕ, ◌+◌, ◌≤◌, ◌<◌, get_or, Some, slice_get}
use Rattle.bits.specs.Bits.{bits_of}
use Rattle.block_rules.specs.Extent.{Spared}
use Rattle.block_rules.specs.Codec.{HeaderReader}
use Rattle.block_rules.specs.Walk.{Entry, size_in, own_bits, walk}

abbrev pub bit_at : List ℕ → ℕ → Bool
bit_at v i = get_or (bits_of v) i false

-- e is PDU number k of the walk of the n bits in v
abbrev pub IsPdu : {H : Type 0} → HeaderReader H → ℕ → List ℕ → ℕ → Entry H → Type 0
IsPdu R n v k e = slice_get (walk R v n).entries k ≡ Some e

-- the PDU e of v has its spared bits in v' too
abbrev pub SparedIn : {H : Type 0} → ℕ → List ℕ → List ℕ → Entry H → Type 0
SparedIn n v v' e = (i : ℕ) → Spared (own_bits n v e) i → bit_at v' (e.bit + i) ≡ bit_at v (e.bit + i)

-- v' is v with any bits, but for the spared ones, in the PDUs whose numbers `altered` tells; every other PDU has its bits, and bits in no
-- PDU may be any. A PDU that a refusal leaves without an end has all bits to N, so that then none is in no PDU.
pub record Altered {H : Type 0} (R : HeaderReader H) (n : ℕ) (v v' : List ℕ) (altered : ℕ → Bool) : Type 0 where
  pub spared : (k : ℕ) (e : Entry H) → IsPdu R n v k e → altered k ≡ true → SparedIn n v v' e
  pub others : (k : ℕ) (e : Entry H) → IsPdu R n v k e → altered k ≡ false → own_bits n v' e ≡ own_bits n v e

-- v' is v with any bits, but for the spared ones, in PDU number k, which is e: "Altering keeps N and all bits outside the PDU"
pub record AlteredOne {H : Type 0} (R : HeaderReader H) (n : ℕ) (v v' : List ℕ) (k : ℕ) (e : Entry H) : Type 0 where
  pub pdu : IsPdu R n v k e
  pub spared : SparedIn n v v' e
  pub outside : (i : ℕ) → i < n → (i < e.bit) ⊎ (e.bit + size_in n e ≤ i) → bit_at v' i ≡ bit_at v i
