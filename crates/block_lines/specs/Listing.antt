-- The listing of a block, byte for byte. Document 01, "A listing program".
use Rattle.std.specs.Prelude.{cond, List, [], ◌∷◌, ◌++◌, ℕ, length}
use Rattle.text.specs.Ascii.{ascii, line}
use Rattle.text.specs.Decimal.{decimal}
use Rattle.block_rules.specs.Walk.{good_block}
use Rattle.block_walk.specs.declared.Position.{Position}
use Rattle.block_lines.specs.declared.line.Line.{Line}
use Rattle.block_lines.specs.Line.{line_text, lines_from, rest_bits}

unfoldable pub lines_text : List Line → List ℕ
lines_text [] = []
lines_text (l ∷ ls) = line_text l ++ lines_text ls

abbrev pub rest_text : ℕ → List ℕ
rest_text bits = line (ascii "rest" ∷ decimal bits ∷ [])

-- "The line `rest` with its bits always follows the entries."
abbrev pub block_text : (v : List ℕ) (n : ℕ) → List ℕ
block_text v n = lines_text (lines_from v n (Position.At 0)) ++ rest_text (rest_bits v n)

abbrev pub no_block_text : List ℕ
no_block_text = ascii "0 refused 13 0\n"

-- "A bit count over 488 or a short file prints only `0 refused 13 0`."
abbrev pub listing_text : (v : List ℕ) (n : ℕ) → List ℕ
listing_text v n = cond (good_block n (length v)) (block_text v n) no_block_text
