-- What a block needs of its headers. Blocks are defined over any codec, and proved over any that keeps its laws.
use Rattle.std.specs.Prelude.{◌≡◌, Bool, List, ◌++◌, ℕ, ◌≤◌, length}
use Rattle.codec.specs.Reader.{Out, got}
use Rattle.block_rules.specs.declared.extent.Extent.{Extent}
use Rattle.block_rules.specs.Numbers.{most_bits}
use Rattle.block_rules.specs.Extent.{extent}
use Rattle.block_rules.specs.Ending.{Ending, length_of, pdu_size}

-- how a header is read
pub record HeaderReader (H : Type 0) : Type 0 where
  -- from the bits of its PDU
  pub read_header : List Bool → Out H
  -- the fill flag of a header that was read
  pub fill_flag : H → Bool

-- how a header is written, and how its PDU ends
pub record HeaderWriter (A : Type 0) : Type 0 where
  -- its bits, with a length field and a fill flag in place of its own
  pub write_header : A → ℕ → Bool → List Bool
  -- how many: `compute_header_len`, and "in an add such an element", of direction 0, "counts 25 or 27 bits"
  pub header_len : A → ℕ
  -- the first of 9, 10, "then 3, 7, 14, 11, 6 in layout order" that refuses to add it, or 0
  pub check : A → ℕ
  pub ending : A → Ending

-- what is added may be another type than what is read
pub record Codec (A H : Type 0) : Type 0 where
  pub reader : HeaderReader H
  pub writer : HeaderWriter A
  -- "Normal form: .. length and fill are those set by the writer."
  pub normal : A → ℕ → Bool → H

-- a header is read inside the bits that it is given
abbrev pub Inside : {H : Type 0} → HeaderReader H → Type 0
Inside {H} R = (bits : List Bool) (h : H) (rest : List Bool) (n : ℕ) → R.read_header bits ≡ got h rest n → n ≤ length bits

pub record Laws {A H : Type 0} (C : Codec A H) : Type 0 where
  -- a header that nothing refuses is written in as many bits as it counts
  pub sized : (a : A) (l : ℕ) (f : Bool) → C.writer.check a ≡ 0 → length (C.writer.write_header a l f) ≡ C.writer.header_len a
  -- written with the length for n bits of header and content where `left` bits are left, its PDU ends for a reader where its writer says,
  -- whatever stands behind the header
  pub ends : (a : A) (left n : ℕ) (f : Bool) → C.writer.check a ≡ 0 → C.writer.header_len a ≤ n → n ≤ most_bits → n ≤ left → (t : List Bool)
      → length (C.writer.write_header a (length_of (C.writer.ending a) n) f ++ t) ≡ left
      → extent (C.writer.write_header a (length_of (C.writer.ending a) n) f ++ t) ≡ Extent.Sized (pdu_size (C.writer.ending a) left n)
  -- it is read back as its normal form, whatever stands behind it
  pub back : (a : A) (n : ℕ) (f : Bool) → C.writer.check a ≡ 0 → n ≤ most_bits → (t : List Bool)
      → C.reader.read_header (C.writer.write_header a (length_of (C.writer.ending a) n) f ++ t)
      ≡ got (C.normal a (length_of (C.writer.ending a) n) f) t (C.writer.header_len a)
  -- which has the fill flag that was written
  pub flagged : (a : A) (l : ℕ) (f : Bool) → C.writer.check a ≡ 0 → C.reader.fill_flag (C.normal a l f) ≡ f
  pub inside : Inside C.reader
