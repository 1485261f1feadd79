-- An add of a header on its way out: what can be put, what the call leaves, and what it answers.
use Rattle.std.specs.Prelude.{◌≡◌, List, ℕ, ◌+◌, ◌*◌, ◌%◌, ◌≤◌, ◌<◌, length}
use Rattle.tetra_core.specs.Refusal.{refused_by}
use Rattle.codec.specs.declared.encoded.EncodedHeader.{EncodedHeader}
use Rattle.codec.specs.Encoded.{size_of, bits_with, Settable}
use Rattle.block_rules.specs.Numbers.{most_bits}
use Rattle.block_rules.specs.Ending.{Ending}
use Rattle.block_rules.specs.Writer.{Writer, after, refusal_of, added_of}
use Rattle.mac_block.specs.declared.writer.Written.{Written}
use Rattle.mac_block.specs.Answers.{answer_of}

-- the most bits of a header on its way out: four pieces of at most 63
abbrev pub most_header_bits : ℕ
most_header_bits = 252

-- a PDU that can be put at the bit p of a block of `bytes` bytes: a header with length field l, k bits of content out of `slice` bytes, and f
-- bits of fill
pub record PuttablePdu (p : ℕ) (e : EncodedHeader) (l slice k f bytes : ℕ) : Type 0 where
  pub octet : p % 8 ≡ 0
  pub fine : Settable e
  pub free : refused_by e.judged ≡ 0
  pub length : l < 64
  pub given : k ≤ 8 * slice
  pub room : p + (size_of e + k + f) ≤ 8 * bytes
  pub small : p + (size_of e + k + f) ≤ most_bits

unfoldable pub encoded_to : (n : ℕ) → Writer → EncodedHeader → Ending → (content : List ℕ) (k : ℕ) → Writer
encoded_to n w e i content k =
    after (refusal_of (length w.bytes) n w.bit (size_of e) (refused_by e.judged) (length content) k) w (added_of n w (size_of e) (bits_with e) i content k)

unfoldable pub encoded_answer : (n : ℕ) → Writer → EncodedHeader → Ending → (content : List ℕ) (k : ℕ) → Written
encoded_answer n w e i content k =
    answer_of (refusal_of (length w.bytes) n w.bit (size_of e) (refused_by e.judged) (length content) k) (encoded_to n w e i content k)
