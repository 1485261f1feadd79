-- How many bytes a listing has at the most, so that its buffer suffices.
use Rattle.std.specs.Prelude.{ℕ, ◌+◌, ◌*◌, ◌/◌}
use Rattle.text.specs.Decimal.{decimal_most}
use Rattle.block_rules.specs.Numbers.{most_bits, least_bits}

-- a number behind a space
abbrev pub field_most : ℕ
field_most = 1 + decimal_most

-- the longest name of an address case behind a space, ` ssi+marker`
abbrev pub case_most : ℕ
case_most = 11

abbrev pub address_most : ℕ
address_most = case_most + (field_most + field_most)

-- the longest line is that of a PDU that was read: its start, ` resource`, its bits, address and content, and the line feed
abbrev pub line_most : ℕ
line_most = decimal_most + (9 + (field_most + (address_most + (field_most + 1))))

-- `rest`, a number and the line feed
abbrev pub rest_most : ℕ
rest_most = 4 + (field_most + 1)

-- each entry has 16 bits or more
abbrev pub entries_most : ℕ
entries_most = most_bits / least_bits

abbrev pub listing_most : ℕ
listing_most = entries_most * line_most + rest_most
