-- Bits read at a place.
use Rattle.std.specs.Prelude.{ℕ, ◌+◌, ◌*◌, ◌/◌, ◌%◌, ◌^◌, ◌≤◌, ◌<◌, ◌≡◌, refl, [], List, ◌++◌, length, take, drop}
use Rattle.std.proofs.Common.{mul_assoc, add-mul, add_assoc, arith, length-drop, length-take-le, take-add, drop-drop, pow-add}
use Rattle.std.proofs.Math.Pow.{high, low}
use Rattle.bits.specs.Bits.{val, bits_of_nat, bits_of, bits_at, get_bits}
use Rattle.bits.proofs.Laws.Values.{val-nil, val-append, val_lt, bits_of_nat-val}
use Rattle.bits.proofs.Laws.Bytes.{length_bits_of, take_bits_of, drop_bits_of}

pub at-is : (s : List ℕ) (p n : ℕ) → bits_at s p n ≡ take n (drop p (bits_of s))
unfolding bits_at
at-is s p n = refl

pub get_is : (s : List ℕ) (p n : ℕ) → get_bits s p n ≡ val (bits_at s p n)
unfolding get_bits
get_is s p n = refl

pub bits_at_add : (s : List ℕ) (p j k : ℕ) → bits_at s p (j + k) ≡ bits_at s p j ++ bits_at s (p + j) k
unfolding bits_at
bits_at_add s p j k = rw (take-add j k (drop p (bits_of s)), drop-drop j p (bits_of s))

pub length_bits_at : (s : List ℕ) (p n : ℕ) → p + n ≤ 8 * length s → length (bits_at s p n) ≡ n
unfolding bits_at
length_bits_at s p n h = length-take-le n (drop p (bits_of s)) (omega (arith, length-drop p (bits_of s), length_bits_of s))

pub get_bits_lt : (s : List ℕ) (p n : ℕ) → p + n ≤ 8 * length s → get_bits s p n < 2 ^ n
unfolding get_bits
get_bits_lt s p n h = rw (length_bits_at s p n h) at (val_lt (bits_at s p n))

-- the bits of what a read returns
pub bits_of_nat-get_bits : (s : List ℕ) (p n : ℕ) → p + n ≤ 8 * length s → bits_of_nat n (get_bits s p n) ≡ bits_at s p n
unfolding get_bits
bits_of_nat-get_bits s p n h = rw (length_bits_at s p n h) at (bits_of_nat-val (bits_at s p n))

-- a read of j + k bits is a read of j and one of k
pub get_bits-add : (s : List ℕ) (p j k : ℕ) → p + (j + k) ≤ 8 * length s → get_bits s p (j + k) ≡ get_bits s p j * 2 ^ k + get_bits s (p + j) k
unfolding get_bits
get_bits-add s p j k h = rw (bits_at_add s p j k, val-append, length_bits_at s (p + j) k (omega arith))

-- a part of a read
pub get_bits-part : (s : List ℕ) (p o n m : ℕ) → p + (o + (n + m)) ≤ 8 * length s
    → get_bits s p (o + (n + m)) / 2 ^ m % 2 ^ n ≡ get_bits s (p + o) n
get_bits-part s p o n m h =
    rw (
      get_bits-add s p o (n + m) h,
      get_bits-add s (p + o) n m (omega arith),
      pow-add 2 n m,
      ← mul_assoc,
      ← add_assoc (get_bits s p o * 2 ^ n * 2 ^ m) _ _,
      ← add-mul (get_bits s p o * 2 ^ n) (get_bits s (p + o) n) (2 ^ m),
      high (get_bits s p o * 2 ^ n + get_bits s (p + o) n) m (get_bits_lt s (p + o + n) m (omega arith)),
    )
    (low (get_bits s p o) n (get_bits_lt s (p + o) n (omega arith)))

pub bits_at_zero : (s : List ℕ) (p : ℕ) → bits_at s p 0 ≡ []
unfolding bits_at
bits_at_zero s p = refl

pub get_bits-zero : (s : List ℕ) (p : ℕ) → get_bits s p 0 ≡ 0
unfolding get_bits
get_bits-zero s p = rw (bits_at_zero s p) val-nil

-- whole bytes that are read
pub bits_at_bytes : (s : List ℕ) (i n : ℕ) → i + n ≤ length s → bits_at s (8 * i) (8 * n) ≡ bits_of (take n (drop i s))
unfolding bits_at
bits_at_bytes s i n h = rw (drop_bits_of i s (omega arith), take_bits_of n (drop i s) (omega (arith, length-drop i s)))
