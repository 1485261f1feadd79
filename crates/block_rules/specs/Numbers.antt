-- The numbers of the block's rules that recur. Document 01, "Block".
use Rattle.std.specs.Prelude.{ℕ}

-- "0 to 488 bits"
abbrev pub most_bits : ℕ
most_bits = 488

-- the fewest bits of a PDU, which tell where it ends ("fewer than 16 bits left: end"), and all bits of a null PDU
abbrev pub least_bits : ℕ
least_bits = 16

-- the marks: "length 62 or 63: the PDU runs to N"
abbrev pub second_slot_stolen : ℕ
second_slot_stolen = 62

abbrev pub frag_start : ℕ
frag_start = 63

-- where a PDU has its length and its address type: "Type 2 (0), fill 1, position of grant 1, encryption 2, random access 1, length 6, address
-- type 3: 16 bits."
abbrev pub length_at : ℕ
length_at = 7

abbrev pub address_type_at : ℕ
address_type_at = 13
