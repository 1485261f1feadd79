-- One PDU, read from its own bits. Document 01, "Block".
use Rattle.std.specs.Prelude.{Bool, true, false, List, [], ◌∷◌, ℕ, ◌-◌, length, take, drop, Option, Some, None}
use Rattle.codec.specs.Reader.{Out}
use Rattle.block_rules.specs.Codec.{HeaderReader}

-- header, the bits that it takes, content, and the bits of fill; or the refusal's number, and its offset from the PDU's first bit
pub data Reading (H : Type 0) : Type 0 where
  read : (header : H) (header_bits : ℕ) (content : List Bool) (fill : ℕ) → Reading H
  refused : (number offset : ℕ) → Reading H

-- the bits before the last 1, if there is a 1: x is one of them where a 1 follows, and is itself the last 1 or behind it where none does
unfoldable pub extend : Bool → Option (List Bool) → Option (List Bool)
extend x (Some ys) = Some (x ∷ ys)
extend true None = Some []
extend false None = None

unfoldable pub before_last_one : List Bool → Option (List Bool)
before_last_one [] = None
before_last_one (x ∷ xs) = extend x (before_last_one xs)

module _ {H : Type 0} where
  -- "With fill set, the PDU's last 1 after the header, and the zeros after it, are fill." Where there is no 1: "12 .. the header's end"
  unfoldable pub behind_header : H → ℕ → Bool → List Bool → Reading H
  behind_header h n false bits = Reading.read h n bits 0
  behind_header h n true bits =
      elim (before_last_one bits) [
        | Some c ↦ Reading.read h n c (length bits - length c)
        | None ↦ Reading.refused 12 n
      ]

  -- a PDU, by its bits
  unfoldable pub read_own : HeaderReader H → List Bool → Reading H
  read_own R own =
      elim (R.read_header own) [
        | Out.got h rest n ↦ behind_header h n (R.fill_flag h) (drop n own)
        | Out.refused j o ↦ Reading.refused j o
      ]

  -- the PDU of s bits that begins these bits: "A header is read inside its PDU only"
  unfoldable pub read_pdu : HeaderReader H → List Bool → (s : ℕ) → Reading H
  read_pdu R bits s = read_own R (take s bits)
