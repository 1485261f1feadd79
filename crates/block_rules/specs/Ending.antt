-- Where a PDU ends, as its writer says: its length field, its bits and its fill, by the bits of header and content.
use Rattle.std.specs.Prelude.{ℕ, ◌-◌, ◌*◌, min}
use Rattle.tetra_core.specs.Quantity.{octets_of}

-- with a length that was counted; or with the block, and this in place of a length
pub data Ending : Type 0 where
  Counted : Ending
  WithBlock : (mark : ℕ) → Ending

-- "It sets length": for n bits of header and content
unfoldable pub length_of : Ending → (n : ℕ) → ℕ
length_of Ending.Counted n = octets_of n
length_of (Ending.WithBlock mark) n = mark

-- the PDU's bits, where `left` are left: whole octets, but not past N; "A marked PDU takes the rest of the block."
unfoldable pub pdu_size : Ending → (left n : ℕ) → ℕ
pdu_size Ending.Counted left n = min (8 * octets_of n) left
pdu_size (Ending.WithBlock mark) left n = left

-- "fill is the PDU's end less header and content, a 1 then zeros"
abbrev pub pdu_fill : Ending → (left n : ℕ) → ℕ
pdu_fill i left n = pdu_size i left n - n
