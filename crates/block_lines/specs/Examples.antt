-- Document 01's listing: "For 124 bits, 20 31 00 00 01 10 00 10 80 then seven 00 h, it prints" these lines.
use Rattle.std.specs.Prelude.{List, ◌∷◌, ℕ, replicate}
use Rattle.text.specs.Ascii.{ascii}

-- the file: the bit count, and the block
abbrev pub file_01 : List ℕ
file_01 = 0x00 ∷ 124 ∷ 0x20 ∷ 0x31 ∷ 0x00 ∷ 0x00 ∷ 0x01 ∷ 0x10 ∷ 0x00 ∷ 0x10 ∷ 0x80 ∷ replicate 7 0x00

abbrev pub text_01 : List ℕ
text_01 = ascii "0 resource 48 ssi 1 - 0\n48 null\nrest 60\n"
