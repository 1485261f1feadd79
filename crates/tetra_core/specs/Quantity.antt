-- Octets and bits. "octets are header plus content rounded up, fill the bits short of it."
use Rattle.std.specs.Prelude.{ℕ, ◌+◌, ◌-◌, ◌*◌, ◌/◌, Bool, true, false, leb, Result, Ok, Err}
use Rattle.tetra_core.specs.Refusal.{reason}
use Rattle.tetra_core.specs.declared.refusal.Reason.{Reason}
use Rattle.tetra_core.specs.declared.quantity.OctetCount.{OctetCount}

-- a number of bits, rounded up to whole octets
abbrev pub octets_of : ℕ → ℕ
octets_of n = (n + 7) / 8

-- the bits short of whole octets
abbrev pub fill_of : ℕ → ℕ
fill_of n = 8 * octets_of n - n

abbrev pub counted_or8 : Bool → ℕ → Result OctetCount Reason
counted_or8 true n = Ok (record { octets = record { 0 = octets_of n }; fill = record { 0 = fill_of n } })
counted_or8 false n = Err (reason 8)

-- "over 61 octets" is refused 8
unfoldable pub octet_count : ℕ → Result OctetCount Reason
octet_count n = counted_or8 (leb (octets_of n) 61) n
