-- What the code does 64 bits a turn, in terms of bits.
use Rattle.std.specs.Prelude.{ℕ, ◌+◌, ◌*◌, ◌/◌, ◌^◌, ◌≤◌, ◌<◌, ◌≡◌, refl, List, ◌++◌, Bool, length, replicate}
use Rattle.std.proofs.Common.{arith}
use Rattle.std.proofs.lemmas.List.{length-replicate, replicate-append-replicate}
use Rattle.std.proofs.Math.Pow.{high}
use Rattle.bits.specs.Bits.{val, bits_of_nat, bits_at, get_bits, put_bits}
use Rattle.bits.proofs.Laws.Values.{val-append, val_lt, bits_of_nat-val}
use Rattle.bits.proofs.Laws.Reads.{get_is, bits_of_nat-get_bits, bits_at_add, length_bits_at}
use Rattle.bits.proofs.Laws.Writes.{put_bits-append}

-- a write of which the bits xs are done goes on by the bits ys, which the code has as a number
pub goes_on : (s₀ s : List ℕ) (p j k v : ℕ) (xs ys : List Bool) → s ≡ put_bits s₀ p xs → length xs ≡ j → length ys ≡ k → v ≡ val ys
    → p + j ≤ 8 * length s₀ → put_bits s (p + j) (bits_of_nat k v) ≡ put_bits s₀ p (xs ++ ys)
goes_on s₀ s p j k v xs ys es ej ek ev h = rw (es, ev, ← ek, ← ej, bits_of_nat-val) (put_bits-append s₀ p xs ys (rw ej h))

pub alike_lt : (b : Bool) (k : ℕ) → val (replicate k b) < 2 ^ k
alike_lt b k = rw (length-replicate k b) at (val_lt (replicate k b))

-- the first k of n bits that are all b
pub alike : (b : Bool) (n k m : ℕ) → k + m ≡ n → val (replicate n b) / 2 ^ m ≡ val (replicate k b)
alike b n k m e =
    rw (← e, ← replicate-append-replicate k m b, val-append, length-replicate) (high (val (replicate k b)) m (alike_lt b m))

-- the bits of the number that bits which are all b read as
pub alike-bits : (b : Bool) (k : ℕ) → bits_of_nat k (val (replicate k b)) ≡ replicate k b
alike-bits b k = rw length-replicate at (bits_of_nat-val (replicate k b))

-- j bits that are all b, and k more
pub span_turn : (b : Bool) (s₀ s : List ℕ) (p j k v : ℕ) → s ≡ put_bits s₀ p (replicate j b) → v ≡ val (replicate k b) → p + j ≤ 8 * length s₀
    → put_bits s (p + j) (bits_of_nat k v) ≡ put_bits s₀ p (replicate (j + k) b)
span_turn b s₀ s p j k v es ev h =
    rw (← replicate-append-replicate j k b)
    (goes_on s₀ s p j k v (replicate j b) (replicate k b) es (length-replicate j b) (length-replicate k b) ev h)

-- the same of what a write left
pub span_grows : (b : Bool) (s : List ℕ) (p j k : ℕ) → p + j ≤ 8 * length s
    → put_bits (put_bits s p (replicate j b)) (p + j) (replicate k b) ≡ put_bits s p (replicate (j + k) b)
span_grows b s p j k h = rw alike-bits at (span_turn b s (put_bits s p (replicate j b)) p j k (val (replicate k b)) refl refl h)

-- j bits of u from q on, and k more
pub copy_turn : (u s₀ s : List ℕ) (p q j k v : ℕ) → s ≡ put_bits s₀ p (bits_at u q j) → v ≡ get_bits u (q + j) k → p + j ≤ 8 * length s₀
    → q + (j + k) ≤ 8 * length u → put_bits s (p + j) (bits_of_nat k v) ≡ put_bits s₀ p (bits_at u q (j + k))
copy_turn u s₀ s p q j k v es ev h l =
    rw (bits_at_add u q j k)
    (goes_on s₀ s p j k v (bits_at u q j) (bits_at u (q + j) k) es (length_bits_at u q j (omega arith)) (length_bits_at u (q + j) k (omega arith)) (rw (← get_is) ev) h)

-- the same of what a write left
pub copy_grows : (u s : List ℕ) (p q j k : ℕ) → p + j ≤ 8 * length s → q + (j + k) ≤ 8 * length u
    → put_bits (put_bits s p (bits_at u q j)) (p + j) (bits_at u (q + j) k) ≡ put_bits s p (bits_at u q (j + k))
copy_grows u s p q j k h l =
    rw (bits_of_nat-get_bits u (q + j) k (omega arith)) at (copy_turn u s (put_bits s p (bits_at u q j)) p q j k (get_bits u (q + j) k) refl refl h l)
