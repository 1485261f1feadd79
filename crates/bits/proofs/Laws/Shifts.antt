-- What the code's shifts and masks are in plain arithmetic. `a << k` is `a * 2 ^ k % 2 ^ 64`, `a >> k` is `a / 2 ^ k`.
use Rattle.std.specs.Prelude.{ℕ, ◌+◌, ◌-◌, ◌*◌, ◌/◌, ◌%◌, ◌^◌, ◌≤◌, ◌<◌, ◌≡◌}
use Rattle.std.proofs.Common.{sym, ap, ◌∙◌, add_comm, add-zero, add-mul, mul_assoc, one-mul, mod-lt, mod-eq_of_lt, arith, shl_lt, pow_pos, pow-add, shl_exact, shr-shr, shr_lt}
use Rattle.std.proofs.Math.Nat.{mod-mod}
use Rattle.std.specs.Int.Bits.{bit_and, bit_or}
use Rattle.std.proofs.lemmas.Nat.{and_mask, or_shifted, shl-shr, mod-pow-add}
use Rattle.std.proofs.lemmas.Nat.Bits.{and_high}
use Rattle.std.proofs.Math.Pow.{low, high_ones, ones_lt, pow-lt, field, split}
use Rattle.std.proofs.Math.Arith.{digits_lt}
use Rattle.bits.specs.Bits.{patch}

-- 1 << k
pub one_shl : (k : ℕ) → k < 64 → (1 * 2 ^ k) % 2 ^ 64 ≡ 2 ^ k
one_shl k h = ap (λ (x : ℕ). x % 2 ^ 64) (one-mul (2 ^ k)) ∙ mod-eq_of_lt (pow-lt h)

-- x << o
pub shl_is : (x o : ℕ) → o ≤ 64 → (x * 2 ^ o) % 2 ^ 64 ≡ x % 2 ^ (64 - o) * 2 ^ o
shl_is x o h =
    ap (λ (k : ℕ). (x * 2 ^ o) % 2 ^ k) whole
    ∙ mod-pow-add (x * 2 ^ o) (64 - o) o
    ∙ rw (shl-shr x o, none, add-zero)
  where
    whole : 64 ≡ 64 - o + o
    whole = omega arith

    none : x * 2 ^ o % 2 ^ o ≡ 0
    none = rw add-zero at (low x o {lo = 0} (pow_pos o))

-- (acc << k) | x
pub push_is : (acc k x : ℕ) → x < 2 ^ k → acc * 2 ^ k + x < 2 ^ 64 → bit_or ((acc * 2 ^ k) % 2 ^ 64) x ≡ acc * 2 ^ k + x
push_is acc k x hx h =
    ap (λ (y : ℕ). bit_or y x) (mod-eq_of_lt {n = acc * 2 ^ k} {m = 2 ^ 64} (omega arith)) ∙ or_shifted acc k x hx

-- (a << (k + n)) | (b << k)
pub join_is : (a b n k : ℕ) → b < 2 ^ n → bit_or (a * 2 ^ (k + n)) (b * 2 ^ k) ≡ (a * 2 ^ n + b) * 2 ^ k
join_is a b n k h =
    rw (add_comm k n, or_shifted a (n + k) (b * 2 ^ k) (shl_lt n k h), pow-add 2 n k, ← mul_assoc)
    (sym (add-mul (a * 2 ^ n) b (2 ^ k)))

-- (x << o) >> (64 - n)
pub within-is : (x o n : ℕ) → o + n ≤ 64 → (x * 2 ^ o) % 2 ^ 64 / 2 ^ (64 - n) ≡ x / 2 ^ (64 - o - n) % 2 ^ n
within-is x o n h =
    rw
    (e, f, field (x * 2 ^ o) n (o + (64 - o - n)), ← shr-shr (x * 2 ^ o) o (64 - o - n), shl-shr x o)
  where
    g : 64 ≡ n + (o + (64 - o - n))
    g = omega arith

    e : 2 ^ 64 ≡ 2 ^ (n + (o + (64 - o - n)))
    e = ap (λ (k : ℕ). 2 ^ k) g

    f : 64 - n ≡ o + (64 - o - n)
    f = omega arith

-- x with its field of n bits above the m low ones taken out, and v put in
pub replaced_is : (x n m v : ℕ) → v < 2 ^ n → x - x / 2 ^ m % 2 ^ n * 2 ^ m + v * 2 ^ m ≡ patch x n m v
unfolding patch
replaced_is x n m v h =
    omega (arith, split x (n + m), mod-pow-add x n m, ap (λ (y : ℕ). y * 2 ^ m) (mod-eq_of_lt h))

-- the field, where it stands, is no more than x
pub field_le : (x n m : ℕ) → x / 2 ^ m % 2 ^ n * 2 ^ m ≤ x
field_le x n m = omega (arith, split x (n + m), mod-pow-add x n m)

-- the word stays a word
pub replaced_lt : (x o n m v : ℕ) → o + (n + m) ≡ 64 → x < 2 ^ 64 → patch x n m v < 2 ^ 64
unfolding patch
replaced_lt x o n m v e h =
    rw whole
    (rw (pow-add 2 o (n + m))
    (digits_lt (shr_lt o (n + m) below) (rw (pow-add 2 n m) (digits_lt (mod-lt v (pow_pos n)) (mod-lt x (pow_pos m))))))
  where
    whole : 2 ^ 64 ≡ 2 ^ (o + (n + m))
    whole = ap (λ (k : ℕ). 2 ^ k) (sym e)

    below : x < 2 ^ (o + (n + m))
    below = rw e h

-- the same with masks: b - (b & (ones << m)) + ((v & ones) << m)
pub masked_is : (b k m v r : ℕ) → k + m ≤ 64 → r ≡ 2 ^ k - 1
    → b - bit_and b ((r * 2 ^ m) % 2 ^ 64) + (bit_and v r * 2 ^ m) % 2 ^ 64 ≡ patch b k m v
masked_is b k m v r h er =
    rw (
      er,
      and_mask v k,
      shl_exact {a = 2 ^ k - 1} k m 64 (ones_lt k) h,
      shl_exact {a = v % 2 ^ k} k m 64 (mod-lt v (pow_pos k)) h,
      ← high_ones k m,
      and_high b k m,
      replaced_is b k m (v % 2 ^ k) (mod-lt v (pow_pos k)),
    )
    same
  where
    same : patch b k m (v % 2 ^ k) ≡ patch b k m v
    same = unfold patch in rw (mod-mod v (2 ^ k))
