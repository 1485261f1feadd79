-- What is on its way out: the number that refuses it, and its bits in pieces. A header's pieces have the length and the fill flag at places of
-- their own, which are set when it is written.
use Rattle.std.specs.Prelude.{ℕ, ◌+◌, ◌-◌, ◌*◌, ◌^◌, ◌≤◌, ◌<◌, ◌≡◌, List, [], ◌∷◌, ◌++◌, Bool, false, length, Result}
use Rattle.std.specs.Result.{result_and}
use Rattle.bits.specs.Bits.{digit, bits_of_nat}
use Rattle.tetra_core.specs.Refusal.{refused_by}
use Rattle.tetra_core.specs.declared.refusal.Reason.{Reason}
use Rattle.codec.specs.Piece.{piece_bits}
use Rattle.codec.specs.declared.piece.Piece.{Piece}
use Rattle.codec.specs.declared.encoded.Encoded.{Encoded}
use Rattle.codec.specs.declared.encoded.Places.{Places}
use Rattle.codec.specs.declared.encoded.Tail.{Tail}
use Rattle.codec.specs.declared.encoded.EncodedHeader.{EncodedHeader}

-- ---- pieces, one after the other

abbrev pub pieces_bits : List Piece → List Bool
pieces_bits [] = []
pieces_bits (p ∷ ps) = piece_bits p ++ pieces_bits ps

abbrev pub pieces_size : List Piece → ℕ
pieces_size [] = 0
pieces_size (p ∷ ps) = p.bits + pieces_size ps

-- each is less than a word, and is the low bits of its number
abbrev pub AllFew : List Piece → Type 0
AllFew [] = Unit {0}
AllFew (p ∷ ps) = (p.bits ≤ 63) × AllFew ps

abbrev pub Fit : List Piece → Type 0
Fit [] = Unit {0}
Fit (p ∷ ps) = (p.value < 2 ^ p.bits) × Fit ps

-- what k refuses or, if that is 0, can be written
pub record Sound (k : ℕ) (ps : List Piece) : Type 0 where
  pub few : AllFew ps
  pub fit : k ≡ 0 → Fit ps

-- THE definition of what is encoded: what k refuses, and the pieces ps, are refused by j or, if that is 0, have the bits xs; n of them in any
-- case
pub record Encodes (j n : ℕ) (xs : List Bool) (k : ℕ) (ps : List Piece) : Type 0 where
  pub number : k ≡ j
  pub bit_count : pieces_size ps ≡ n
  pub sound : Sound k ps
  pub bits : j ≡ 0 → pieces_bits ps ≡ xs

-- of one piece
abbrev pub EncodesOne : (j n : ℕ) → List Bool → Encoded → Type 0
EncodesOne j n xs e = Encodes j n xs (refused_by e.judged) (e.piece ∷ [])

-- ---- a header

-- the front p with the length l and the fill flag f in their places
abbrev pub set_in : Places → Piece → ℕ → Bool → Piece
set_in at p l f = record { value = p.value + (l * 2 ^ (p.bits - at.length) + digit f * 2 ^ (p.bits - at.fill)); bits = p.bits }

abbrev pub front_with : EncodedHeader → ℕ → Bool → Piece
front_with e = set_in e.places e.front

abbrev pub pieces_with : EncodedHeader → ℕ → Bool → List Piece
pieces_with e l f = front_with e l f ∷ e.rest ∷ e.tail.first ∷ e.tail.second ∷ []

-- its size, and all bits with length and fill flag
abbrev pub size_of : EncodedHeader → ℕ
size_of e = e.front.bits + e.rest.bits + (e.tail.first.bits + e.tail.second.bits)

unfoldable pub bits_with : EncodedHeader → ℕ → Bool → List Bool
bits_with e l f = pieces_bits (pieces_with e l f)

abbrev pub Few : EncodedHeader → Type 0
Few e = AllFew (pieces_with e 0 false)

-- the front has bits, and the places
pub record Placed (e : EncodedHeader) : Type 0 where
  pub some : 0 < e.front.bits
  pub len : e.places.length ≤ e.front.bits
  pub fill : e.places.fill ≤ e.front.bits

-- a header that can be put from the bit p on into so many bytes, with the length l and the fill flag f
pub record PuttableHeader (bytes p : ℕ) (e : EncodedHeader) (l : ℕ) (f : Bool) : Type 0 where
  pub placed : Placed e
  pub fit : Fit (pieces_with e l f)
  pub room : p + size_of e ≤ 8 * bytes
  pub near : p + size_of e ≤ 65536

-- a header that j refuses or, if that is 0, has the bits `xs l f` with any length l and either fill flag f; n of them in any case
pub record EncodesHeader (j n : ℕ) (xs : ℕ → Bool → List Bool) (e : EncodedHeader) : Type 0 where
  pub placed : Placed e
  pub encodes : (l : ℕ) (f : Bool) → l < 64 → Encodes j n (xs l f) (refused_by e.judged) (pieces_with e l f)

-- a header that can be written with any length and either flag, whatever it is the encoding of
pub record Settable (e : EncodedHeader) : Type 0 where
  pub placed : Placed e
  pub few : Few e
  pub sound : (l : ℕ) (f : Bool) → l < 64 → Sound (refused_by e.judged) (pieces_with e l f)

-- ---- what a header is made of

abbrev pub no_tail : Tail
no_tail = record { first = record { value = 0; bits = 0 }; second = record { value = 0; bits = 0 } }

-- r is judged before the front and the rest
abbrev pub whole_of : Result (Unit {0}) Reason → Encoded → Encoded → Tail → Places → EncodedHeader
whole_of r a b t at =
    record { judged = result_and r (result_and a.judged b.judged); front = a.piece; rest = b.piece; tail = t; places = at }

-- the tail of what j refuses or not: n bits which, if j is 0, are ts
abbrev pub EncodesTail : (j n : ℕ) → List Bool → Tail → Type 0
EncodesTail j n ts t = Encodes j n ts j (t.first ∷ t.second ∷ [])

-- a front that has its fill flag and, further on, its length of 6 bits at these places
pub record Spaced (at : Places) (xs : ℕ → Bool → List Bool) : Type 0 where
  pub before : List Bool
  pub between : List Bool
  pub behind : List Bool
  pub is : (l : ℕ) (f : Bool) → xs l f ≡ before ++ (bits_of_nat 1 (digit f) ++ (between ++ (bits_of_nat 6 l ++ behind)))
  pub fill : length before + 1 ≡ at.fill
  pub len : at.fill + length between + 6 ≡ at.length
