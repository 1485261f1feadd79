-- A piece of what is written: the low bits of a number, on their way out.
use Rattle.std.specs.Prelude.{ℕ, ◌+◌, ◌*◌, ◌^◌, ◌≤◌, ◌<◌, ◌≡◌, List, Bool}
use Rattle.bits.specs.Bits.{bits_of_nat}
use Rattle.codec.specs.declared.piece.Piece.{Piece}

abbrev pub piece_bits : Piece → List Bool
piece_bits p = bits_of_nat p.bits p.value

-- the piece is the n bits xs
pub record Holds (xs : List Bool) (n : ℕ) (p : Piece) : Type 0 where
  pub is : piece_bits p ≡ xs
  pub size : p.bits ≡ n
  pub small : p.value < 2 ^ p.bits

-- two pieces that may be put from the bit p on into so many bytes, one after the other
pub record Puttable (bytes p : ℕ) (a b : Piece) : Type 0 where
  pub first : a.value < 2 ^ a.bits
  pub second : b.value < 2 ^ b.bits
  pub few_first : a.bits ≤ 63
  pub few_second : b.bits ≤ 63
  pub room : p + (a.bits + b.bits) ≤ 8 * bytes
  pub near : p + (a.bits + b.bits) ≤ 65536
