-- "A bare field or peek gives 0": the bit of a refused read of bits.
use Rattle.std.specs.Prelude.{ℕ, zero, suc, ◌≤◌, List, [], ◌∷◌, length, ℤ, pos, negsuc, ◌+ℤ◌}
use Rattle.std.proofs.Common.{arith}
use Rattle.bits.specs.Bits.{get_bits}
use Rattle.tetra_core.specs.Refusal.{unless, first}
use Rattle.tetra_core.specs.BitBuffer.{good_window, answer, read_refusal, read_bits, peek_at, peek_place, place_of, signed, peek_bits_posoffset}
use Rattle.tetra_core.specs.declared.bitbuffer.Cursor.{Cursor}
use Rattle.tetra_mac.specs.Reply.{refused_bit}

answer-bit : (j v : ℕ) → refused_bit (answer j v) ≤ 65536
answer-bit zero v = omega arith
answer-bit (suc j) v = omega arith

pub read-bits-bit : (s : List ℕ) (c : Cursor) (n : ℕ) → refused_bit (read_bits s c n).answer ≤ 65536
unfolding read_bits
read-bits-bit s c n = answer-bit (read_refusal (length s) c c.pos n) (get_bits s c.pos n)

pub peek_bits-bit : (s : List ℕ) (c : Cursor) (o : ℤ) (n : ℕ) → refused_bit (peek_bits_posoffset s c o n).answer ≤ 65536
unfolding peek_bits_posoffset place_of peek_at
peek_bits-bit s c o n = go (signed c.pos +ℤ o)
  where
    go : (p : ℤ) → refused_bit (peek_place s c (place_of p) n).answer ≤ 65536
    go (pos p) = answer-bit (read_refusal (length s) c p n) (get_bits s p n)
    go (negsuc p) = answer-bit (first (unless (good_window (length s) c) 13 ∷ 1 ∷ [])) 0
