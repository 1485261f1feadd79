-- What a MAC-ACCESS and a MAC-DATA begin with (document 01): "Type 1 (0), fill 1, encrypted 1, address type 2 .., address" and "Type 2 (0), fill 1,
-- encrypted 1, address as above". The width of the type is w.
use Rattle.std.specs.Prelude.{ℕ, ◌+◌, List, [], ◌∷◌, Bool, not, eqb}
use Rattle.tetra_core.specs.Address.{uplink_address_type}
use Rattle.bits.specs.Bits.{digit}
use Rattle.tetra_core.specs.Refusal.{first}
use Rattle.tetra_core.specs.declared.address.UplinkAddress.{UplinkAddress}
use Rattle.codec.specs.Reader.{Reader, done, refuse, field, here, choose, ◌>>=◌}
use Rattle.codec.specs.Row.{Cell, cell}
use Rattle.codec.specs.Cases.{flag}
use Rattle.tetra_fields.specs.UplinkAddress.{uplink_most, uplink_width, read_uplink_address, encryption_refusal, uplink_address_refusal, uplink_address_row, normal_uplink}
use Rattle.tetra_fields.specs.declared.fields.uplink_head.UplinkHead.{UplinkHead}

-- the bits between the type and the address; the most of a head, whose type has 2
abbrev pub behind_type : ℕ
behind_type = 4

abbrev pub head_most : ℕ
head_most = 2 + behind_type + uplink_most

-- ---- what is read

-- what is behind the type
unfoldable pub read_uplink_body : Reader UplinkHead
read_uplink_body = do
  fill ← field 1 done
  encrypted ← field 1 done
  kind ← field 2 done
  addr ← read_uplink_address kind
  done (record { fill_bits = flag fill; encrypted = flag encrypted; addr = addr })

-- "PDU type wrong": before any later field
unfoldable pub read_uplink_head : ℕ → Reader UplinkHead
read_uplink_head w = do
  at ← here done
  type ← field w done
  choose (not (eqb type 0)) (refuse 4 at) read_uplink_body

-- ---- what is written

-- "10, then 3 .. in layout order": the encryption, the address, then the fields behind it, which are refused by option or by 0
unfoldable pub uplink_refusal : Bool → UplinkAddress → ℕ → ℕ
uplink_refusal encrypted a option = first (encryption_refusal encrypted a ∷ uplink_address_refusal a ∷ option ∷ [])

unfoldable pub uplink_body_row : UplinkHead → List Cell
uplink_body_row h = cell 1 (digit h.fill_bits) ∷ cell 1 (digit h.encrypted) ∷ uplink_address_row h.addr

unfoldable pub uplink_row : ℕ → UplinkHead → List Cell
uplink_row w h = cell w 0 ∷ uplink_body_row h

-- how many bits these are
abbrev pub body_size : UplinkAddress → ℕ
body_size a = behind_type + uplink_width (uplink_address_type a)

abbrev pub uplink_size : ℕ → UplinkAddress → ℕ
uplink_size w a = w + body_size a

-- what was written, as it is read
abbrev pub normal_head : UplinkHead → UplinkHead
normal_head h = record { fill_bits = h.fill_bits; encrypted = h.encrypted; addr = normal_uplink h.addr }
