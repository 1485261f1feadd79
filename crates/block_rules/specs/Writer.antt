-- The block, written: the bits of an add and of a finish, what refuses them, and the bytes and the bit that they leave.
use Rattle.std.specs.Prelude.{Bool, true, false, cond, ◌&&◌, ◌||◌, List, [], ◌∷◌, ◌++◌, ℕ, zero, suc, ◌+◌, ◌-◌, ◌*◌, ◌%◌, leb, ltb, eqb, length, replicate}
use Rattle.bits.specs.Bits.{bits_of_nat, bits_at, put_bits}
use Rattle.tetra_core.specs.Refusal.{unless, first}
use Rattle.block_rules.specs.Numbers.{most_bits, least_bits}
use Rattle.block_rules.specs.Ending.{Ending, length_of, pdu_size, pdu_fill}
use Rattle.block_rules.specs.Codec.{HeaderWriter}
use Rattle.block_rules.specs.Walk.{good_block}

-- "the flag is set only if fill is not 0"
unfoldable pub flag_of : ℕ → Bool
flag_of f = ltb 0 f

unfoldable pub fill_bits : ℕ → List Bool
fill_bits zero = []
fill_bits (suc n) = true ∷ replicate n false

-- "Finishing writes a null PDU (length 2) if 16 bits remain, then, if any remain, one 1 and zeros to N." "Null: 00 10 h."
unfoldable pub null_bits : List Bool
null_bits = bits_of_nat least_bits 0x0010

unfoldable pub finish_bits : (left : ℕ) → List Bool
finish_bits left = cond (ltb left least_bits) (fill_bits left) (null_bits ++ fill_bits (left - least_bits))

-- "A writer's bit past N, or neither N nor on an octet, is refused 13."
unfoldable pub good_bit : (n p : ℕ) → Bool
good_bit n p = leb p n && (eqb p n || eqb (p % 8) 0)

-- the lent bytes and the writer's bit
pub record Writer : Type 0 where
  pub bytes : List ℕ
  pub bit : ℕ

abbrev pub writer_at : List ℕ → ℕ → Writer
writer_at v p = record { bytes = v; bit = p }

-- what a call leaves: w' if the number that refuses it is 0, else "a refused call moves nothing"
unfoldable pub after : ℕ → (w w' : Writer) → Writer
after zero w w' = w'
after (suc j) w w' = w

-- ---- finish

unfoldable pub finish_refusal : (bytes n p : ℕ) → ℕ
finish_refusal bytes n p = first (unless (good_block n bytes) 13 ∷ unless (good_bit n p) 13 ∷ [])

-- "a finish moves it to N"
unfoldable pub finished : (n : ℕ) → Writer → Writer
finished n w = record { bytes = put_bits w.bytes w.bit (finish_bits (n - w.bit)); bit = n }

unfoldable pub finish_to : (n : ℕ) → Writer → Writer
finish_to n w = after (finish_refusal (length w.bytes) n w.bit) w (finished n w)

-- ---- add

-- "The writer takes a header, a counted length or mark 62 or 63, and content", handed in as bytes and a count of bits. The header says how its
-- PDU ends, so that only a kind with marks can have one
pub record Add (A : Type 0) : Type 0 where
  pub header : A
  pub content : List ℕ
  pub bits : ℕ

abbrev pub add_of : {A : Type 0} → A → List ℕ → ℕ → Add A
add_of a content k = record { header = a; content = content; bits = k }

abbrev pub content_of : {A : Type 0} → Add A → List Bool
content_of a = bits_at a.content 0 a.bits

-- ---- of a header on its way out: m bits, which j refuses or 0, with k bits of content

-- "Writes: 13, 8, 9, 10, then 3, 7, 14, 11, 6 in layout order .., 2 last". Of header and content alone: 8, "over 61 octets, marked or
-- counted", and the header's own
unfoldable pub check_of : (m j k : ℕ) → ℕ
check_of m j k = first (unless (leb (m + k) most_bits) 8 ∷ j ∷ [])

-- with the content in a slice of `slice` bytes; 2: "PDU longer than the rest"
unfoldable pub refusal_of : (bytes n p m j slice k : ℕ) → ℕ
refusal_of bytes n p m j slice k =
    first
    (unless (good_block n bytes) 13
    ∷ unless (good_bit n p) 13
    ∷ unless (leb k (8 * slice)) 13
    ∷ check_of m j k
    ∷ unless (leb (m + k) (n - p)) 2
    ∷ [])

-- a header xs with length field l, content, and f bits of fill
abbrev pub pdu_bits : (ℕ → Bool → List Bool) → (l : ℕ) → List Bool → (f : ℕ) → List Bool
pdu_bits xs l content f = xs l (flag_of f) ++ (content ++ fill_bits f)

-- "An add that no number refuses is accepted and moves the bit to its PDU's end": m bits xs of header
unfoldable pub added_of : (n : ℕ) → Writer → (m : ℕ) → (ℕ → Bool → List Bool) → Ending → (content : List ℕ) (k : ℕ) → Writer
added_of n w m xs i content k =
    record {
      bytes = put_bits w.bytes w.bit (pdu_bits xs (length_of i (m + k)) (bits_at content 0 k) (pdu_fill i (n - w.bit) (m + k)));
      bit = w.bit + pdu_size i (n - w.bit) (m + k);
    }

module _ {A : Type 0} (W : HeaderWriter A) where
  -- header and k bits of content
  abbrev pub total : A → (k : ℕ) → ℕ
  total a k = W.header_len a + k

  abbrev pub total_of : Add A → ℕ
  total_of a = total a.header a.bits

  unfoldable pub add_check : A → (k : ℕ) → ℕ
  add_check a k = check_of (W.header_len a) (W.check a) k

  unfoldable pub add_refusal : (bytes n p : ℕ) → A → (slice k : ℕ) → ℕ
  add_refusal bytes n p a slice k = refusal_of bytes n p (W.header_len a) (W.check a) slice k

  -- the length field that an add sets, and the bits and the fill of its PDU where `left` bits are left to N
  abbrev pub length_in : Add A → ℕ
  length_in a = length_of (W.ending a.header) (total_of a)

  abbrev pub size_of : (left : ℕ) → Add A → ℕ
  size_of left a = pdu_size (W.ending a.header) left (total_of a)

  abbrev pub fill_of : (left : ℕ) → Add A → ℕ
  fill_of left a = pdu_fill (W.ending a.header) left (total_of a)

  -- what an add writes there
  unfoldable pub added_bits : (left : ℕ) → Add A → List Bool
  added_bits left a = pdu_bits (W.write_header a.header) (length_in a) (content_of a) (fill_of left a)

  -- "An add that no number refuses is accepted and moves the bit to its PDU's end"
  unfoldable pub added : (n : ℕ) → Writer → Add A → Writer
  added n w a = record { bytes = put_bits w.bytes w.bit (added_bits (n - w.bit) a); bit = w.bit + size_of (n - w.bit) a }

  unfoldable pub add_to : (n : ℕ) → Writer → Add A → Writer
  add_to n w a = after (add_refusal (length w.bytes) n w.bit a.header (length a.content) a.bits) w (added n w a)
