-- The bits of bytes, and bytes out of bits.
use Rattle.std.specs.Prelude.{ℕ, zero, suc, ◌+◌, ◌*◌, ◌/◌, ◌%◌, ◌^◌, ◌≤◌, ◌<◌, ◌≡◌, refl, [], List, ◌∷◌, ◌++◌, Bool, length, take, drop, set}
use Rattle.std.proofs.Common.{sym, ap, ap₂, ◌∙◌, append_assoc, pow-add, pow-suc, mod-eq_of_lt, lt_of_lt_of_le, arith, length-append, length-take, length-drop, take-append-drop, length-take-le, take_at, drop_at, pow_mono}
use native.Mathlib.Nat.{pow-zero, div-one, mod-mod}
use Rattle.std.specs.Int.{byte_at, bytes_high_first}
use Rattle.bits.specs.Bits.{val, bits_of_nat, bits_of, pack, Bytes}
use Rattle.bits.proofs.Laws.Values.{val_lt, bits-zero, bits_of_nat-add, bits_of_nat-mod, length-bits_of_nat, val-bits_of_nat, bits_of_nat-val}

pub bits_of_nil : bits_of [] ≡ []
unfolding bits_of
bits_of_nil = refl

pub bits_of_cons : (b : ℕ) (s : List ℕ) → bits_of (b ∷ s) ≡ bits_of_nat 8 b ++ bits_of s
unfolding bits_of
bits_of_cons b s = refl

pub pack-zero : (bs : List Bool) → pack zero bs ≡ []
unfolding pack
pack-zero bs = refl

pub pack-suc : (n : ℕ) (bs : List Bool) → pack (suc n) bs ≡ val (take 8 bs) ∷ pack n (drop 8 bs)
unfolding pack
pack-suc n bs = refl

pub length_bits_of : (s : List ℕ) → length (bits_of s) ≡ 8 * length s
length_bits_of [] = rw bits_of_nil
length_bits_of (b ∷ s) =
    rw bits_of_cons (omega (arith, length-append (bits_of_nat 8 b) (bits_of s), length-bits_of_nat 8 b, length_bits_of s))

pub bits_of_append : (s t : List ℕ) → bits_of (s ++ t) ≡ bits_of s ++ bits_of t
bits_of_append [] t = rw bits_of_nil
bits_of_append (b ∷ s) t = rw (bits_of_cons b (s ++ t), bits_of_cons b s, bits_of_append s t, append_assoc)

pub drop_bits_of : (i : ℕ) (s : List ℕ) → i ≤ length s → drop (8 * i) (bits_of s) ≡ bits_of (drop i s)
drop_bits_of i s h =
    rw (← bits_of_append (take i s) (drop i s), take-append-drop) at
    (drop_at (bits_of (take i s)) (bits_of (drop i s)) (8 * i) (length_bits_of (take i s) ∙ ap (λ (k : ℕ). 8 * k) (length-take-le i s h)))

pub take_bits_of : (i : ℕ) (s : List ℕ) → i ≤ length s → take (8 * i) (bits_of s) ≡ bits_of (take i s)
take_bits_of i s h =
    rw (← bits_of_append (take i s) (drop i s), take-append-drop) at
    (take_at (bits_of (take i s)) (bits_of (drop i s)) (8 * i) (length_bits_of (take i s) ∙ ap (λ (k : ℕ). 8 * k) (length-take-le i s h)))

pub length-pack : (n : ℕ) (bs : List Bool) → length (pack n bs) ≡ n
length-pack zero bs = rw pack-zero
length-pack (suc n) bs = rw pack-suc (ap suc (length-pack n (drop 8 bs)))

empty : (bs : List Bool) → length bs ≡ 0 → [] ≡ bs
empty [] e = refl
empty (b ∷ bs) e = absurd (omega arith)

pub bits_of_pack : (n : ℕ) (bs : List Bool) → length bs ≡ 8 * n → bits_of (pack n bs) ≡ bs
bits_of_pack zero bs e = rw (pack-zero, bits_of_nil) (empty bs e)
bits_of_pack (suc n) bs e =
    rw (pack-suc, bits_of_cons, bits_of_pack n (drop 8 bs) rest, head) (take-append-drop 8 bs)
  where
    long : 8 ≤ length bs
    long = omega arith

    rest : length (drop 8 bs) ≡ 8 * n
    rest = omega (arith, length-drop 8 bs)

    head : bits_of_nat 8 (val (take 8 bs)) ≡ take 8 bs
    head = rw (length-take-le 8 bs long) at (bits_of_nat-val (take 8 bs))

pub pack_bits_of : (s : List ℕ) → Bytes s → pack (length s) (bits_of s) ≡ s
pack_bits_of [] h = rw pack-zero
pack_bits_of (b ∷ s) h =
    rw (
      pack-suc,
      bits_of_cons,
      take_at (bits_of_nat 8 b) (bits_of s) 8 (length-bits_of_nat 8 b),
      drop_at (bits_of_nat 8 b) (bits_of s) 8 (length-bits_of_nat 8 b),
      val-bits_of_nat 8 b,
      mod-eq_of_lt (h 0),
      pack_bits_of s (λ i. h (suc i)),
    )

pub bytes-pack : (n : ℕ) (bs : List Bool) → Bytes (pack n bs)
bytes-pack zero bs i = rw pack-zero (omega arith)
bytes-pack (suc n) bs zero =
    rw pack-suc (lt_of_lt_of_le (val_lt (take 8 bs)) (pow_mono {j = 8} (omega (arith, length-take 8 bs))))
bytes-pack (suc n) bs (suc i) = rw pack-suc (bytes-pack n (drop 8 bs) i)

-- two lists of bytes with the same bits are one list
pub bits_of_inj : (s t : List ℕ) → Bytes s → Bytes t → bits_of s ≡ bits_of t → s ≡ t
bits_of_inj s t hs ht e =
    sym (pack_bits_of s hs) ∙ ap₂ pack same e ∙ pack_bits_of t ht
  where
    same : length s ≡ length t
    same = omega (arith, length_bits_of s, length_bits_of t, ap length e)

pub bytes-take : (n : ℕ) (s : List ℕ) → Bytes s → Bytes (take n s)
bytes-take zero s h i = omega arith
bytes-take (suc n) [] h i = omega arith
bytes-take (suc n) (a ∷ s) h zero = h 0
bytes-take (suc n) (a ∷ s) h (suc i) = bytes-take n s (λ j. h (suc j)) i

pub bytes-set : (s : List ℕ) (i x : ℕ) → Bytes s → x < 256 → Bytes (set s i x)
bytes-set [] i x hs hx j = hs j
bytes-set (a ∷ s) zero x hs hx zero = hx
bytes-set (a ∷ s) zero x hs hx (suc j) = hs (suc j)
bytes-set (a ∷ s) (suc i) x hs hx zero = hs 0
bytes-set (a ∷ s) (suc i) x hs hx (suc j) = bytes-set s i x (λ l. hs (suc l)) hx j

bytes_pow : (k : ℕ) → 2 ^ (8 * k) ≡ 256 ^ k
bytes_pow zero = refl
bytes_pow (suc k) = let e : 8 * suc k ≡ 8 * k + 8 = omega arith in rw (e, pow-add 2 (8 * k) 8, bytes_pow k, pow-suc 256 k)

byte_at-is : (k x : ℕ) → byte_at k x ≡ x / 2 ^ (8 * k) % 256
byte_at-is zero x = rw (pow-zero, div-one)
byte_at-is (suc k) x = rw bytes_pow

-- the bytes of a number, most significant first
pub bits_of_high_first : (k x : ℕ) → bits_of (bytes_high_first k x) ≡ bits_of_nat (8 * k) x
bits_of_high_first zero x = rw (bits_of_nil, bits-zero)
bits_of_high_first (suc k) x =
    rw (bits_of_cons, bits_of_high_first k x, bits_of_nat-mod 8 (byte_at k x) (x / 2 ^ (8 * k)) same, ← bits_of_nat-add 8 (8 * k) x, e)
  where
    e : 8 + 8 * k ≡ 8 * suc k
    e = omega arith

    same : byte_at k x % 2 ^ 8 ≡ x / 2 ^ (8 * k) % 2 ^ 8
    same = rw (byte_at-is, mod-mod)
