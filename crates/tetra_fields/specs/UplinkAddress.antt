-- The address of a MAC-ACCESS or MAC-DATA (document 01): "address type 2 (0 SSI, 1 label, 2 USSI, 3 SMI), address"; "SSI, USSI and SMI have
-- 24 bits, label 10".
use Rattle.std.specs.Prelude.{ℕ, ◌%◌, ◌^◌, List, [], ◌∷◌, Bool, not, cond, get_or, eqb, ltb, Result}
use Rattle.tetra_core.specs.Address.{uplink_address_type}
use Rattle.tetra_core.specs.Refusal.{unless}
use Rattle.tetra_core.specs.declared.address.SsiType.TheVariants as Kind'
use Rattle.tetra_core.specs.declared.address.UplinkAddress.{UplinkAddress}
use Rattle.tetra_core.specs.declared.address.UplinkAddress.TheVariants.{Ssi, EventLabel, Ussi, Smi}
use Rattle.codec.specs.Reader.{Reader, done, field, ◌>>=◌}
use Rattle.codec.specs.Row.{Cell, cell}
use Rattle.codec.specs.Cases.{case_up_to}
use Rattle.codec.specs.declared.cases.NoCase.{NoCase}
use Rattle.tetra_fields.specs.declared.enums.uplink_addr_type.UplinkAddrType.{UplinkAddrType}
use Rattle.tetra_fields.specs.declared.enums.uplink_addr_type.UplinkAddrType.TheVariants as Type'

-- ---- the number of each address type, as `uplink_address_type` has it, and its bits

abbrev pub uplink_type_number : UplinkAddrType → ℕ
uplink_type_number Type'.Ssi = 0
uplink_type_number Type'.EventLabel = 1
uplink_type_number Type'.Ussi = 2
uplink_type_number Type'.Smi = 3

-- the case of a field's bits, the low 2 of a number; 3 is the last number of 2 bits
unfoldable pub uplink_type_of : ℕ → UplinkAddrType
uplink_type_of v = get_or (Type'.Ssi ∷ Type'.EventLabel ∷ Type'.Ussi ∷ []) (v % 4) Type'.Smi

-- of a number, where it is one of 2 bits
abbrev pub uplink_type_case : ℕ → Result UplinkAddrType NoCase
uplink_type_case = case_up_to 3 uplink_type_of

-- the most bits of an address
abbrev pub uplink_most : ℕ
uplink_most = 24

-- the bits of an address of a type
unfoldable pub uplink_width : ℕ → ℕ
uplink_width kind = cond (eqb kind 1) 10 uplink_most

-- ---- what is read

-- the address of a type with a number; "SSI kind becomes .. Issi in uplink"
unfoldable pub uplink_of : ℕ → ℕ → UplinkAddress
uplink_of kind v = get_or (Ssi Kind'.Issi v ∷ EventLabel v ∷ Ussi v ∷ []) kind (Smi v)

unfoldable pub read_uplink_address : ℕ → Reader UplinkAddress
read_uplink_address kind = do
  v ← field (uplink_width kind) done
  done (uplink_of kind v)

-- ---- what is written

abbrev pub uplink_number : UplinkAddress → ℕ
uplink_number (Ssi k v) = v
uplink_number (EventLabel l) = l
uplink_number (Ussi v) = v
uplink_number (Smi v) = v

-- "value wider than its field"
unfoldable pub uplink_address_refusal : UplinkAddress → ℕ
uplink_address_refusal a = unless (ltb (uplink_number a) (2 ^ uplink_width (uplink_address_type a))) 3

-- "SSI, USSI or SMI written with encryption"; a label alone is written with it
abbrev pub encryption_refusal : Bool → UplinkAddress → ℕ
encryption_refusal encrypted (Ssi k v) = unless (not encrypted) 10
encryption_refusal encrypted (EventLabel l) = 0
encryption_refusal encrypted (Ussi v) = unless (not encrypted) 10
encryption_refusal encrypted (Smi v) = unless (not encrypted) 10

unfoldable pub uplink_address_row : UplinkAddress → List Cell
uplink_address_row a = cell 2 (uplink_address_type a) ∷ cell (uplink_width (uplink_address_type a)) (uplink_number a) ∷ []

-- ---- what was written, as it is read

abbrev pub normal_uplink : UplinkAddress → UplinkAddress
normal_uplink (Ssi k v) = Ssi Kind'.Issi v
normal_uplink (EventLabel l) = EventLabel l
normal_uplink (Ussi v) = Ussi v
normal_uplink (Smi v) = Smi v
