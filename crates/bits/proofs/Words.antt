-- What the code does a byte or a word at a time, in terms of bits.
use Prim.Native.Nat.{ℕ, zero, suc, ◌+◌, ◌-◌, ◌*◌, ◌/◌, ◌%◌, ◌^◌, ◌≤◌, ◌<◌}
use mathlib.Core.Path.{◌≡◌, refl, sym, ap, ◌∙◌}
use mathlib.Core.List.{List, [], ◌∷◌, ◌++◌, append_assoc}
use mathlib.Core.Bool.{Bool}
use native.Mathlib.Nat.{zero-add, add-zero, add-sub_of_le, lt_of_lt_of_le, mod-mod, mod-eq_of_lt, mul_assoc, add-mul, add_assoc, pow-zero, div-one}
use native.Mathlib.Omega.{arith}
use borrow.Rule.Slice.PartMut.{put_mid}
use lib.ListN.{length, get_or, take, drop, set, length-append, length-drop, take-append-drop}
use lib.Seq.{length-take-le, take_at, drop_at, drop-cons, set_split, split_at, drop-drop}
use lib.Bits.{bit_or, or_shifted}
use lib.Pow.{pow-add, pow_mono, high, low, shr_lt, shr_mod}
use lib.Arith.{digits_lt}
use Rattle.std.proofs.Common.{add-one, take_all}
use Rattle.std.specs.Int.{w64, from_be_bytes}
use Rattle.std.proofs.lemmas.Nat.{be_bytes_8}
use Rattle.std.proofs.lemmas.List.{append-nil, get_or-drop, get_or-take}
use Rattle.std.specs.List.{fold}
use Rattle.std.proofs.lemmas.List.Sums.{fold_more}
use Rattle.bits.proofs.Laws.Shifts.{push_is, shl_is, within-is}
use Rattle.bits.specs.Bits.{val, bits_of_nat, bits_of, pack, splice, bits_at, get_bits, put_bits, patch, Leading, Bytes}
use Rattle.bits.proofs.Laws.Values.{val-append, val_lt, length-bits_of_nat, val-bits_of_nat, bits_of_nat-val, bits_of_nat-mod, bits_of_nat-add}
use Rattle.bits.proofs.Laws.Bytes.{bits_of_high_first, bits_of_nil, bits_of_cons, length_bits_of, bits_of_append, drop_bits_of, bits_of_inj, bytes-take, bytes-set}
use Rattle.bits.proofs.Laws.Splice.{splice_mid}
use Rattle.bits.proofs.Laws.Reads.{bits_at_bytes, get_bits_lt, get_bits-zero, at-is, get_is, bits_at_add, length_bits_at, get_bits-part}
use Rattle.bits.proofs.Laws.Writes.{put_is, length-put_bits, bytes-put_bits, bits_of_put_bits, put_bits-append, put_bytes}

pub patch_def : (b k m v : ℕ) → patch b k m v ≡ b / 2 ^ (k + m) * 2 ^ (k + m) + (v % 2 ^ k * 2 ^ m + b % 2 ^ m)
unfolding patch
patch_def b k m v = refl

-- eight bits, cut in three
pub cut : (o k m b : ℕ) → o + (k + m) ≡ 8 → bits_of_nat 8 b ≡ bits_of_nat o (b / 2 ^ (k + m)) ++ (bits_of_nat k (b / 2 ^ m) ++ bits_of_nat m b)
cut o k m b e = rw (← e, bits_of_nat-add o (k + m) b, bits_of_nat-add k m b)

-- k bits within the byte i
pub bits_at_byte : (s : List ℕ) (i o k m : ℕ) → o + (k + m) ≡ 8 → i < length s → bits_at s (8 * i + o) k ≡ bits_of_nat k (get_or s i 0 / 2 ^ m)
unfolding bits_at
bits_at_byte s i o k m e h =
    rw (
      ← drop-drop o (8 * i) (bits_of s),
      drop_bits_of i s (omega arith),
      drop-cons s i 0 h,
      bits_of_cons,
      cut o k m (get_or s i 0) e,
      append_assoc,
      drop_at (bits_of_nat o (get_or s i 0 / 2 ^ (k + m))) _ o (length-bits_of_nat o _),
      append_assoc,
    )
    (take_at (bits_of_nat k (get_or s i 0 / 2 ^ m)) _ k (length-bits_of_nat k _))

-- a read goes on by k bits within one byte
pub get_bits_step : (s : List ℕ) (p j i o k m : ℕ) → p + j ≡ 8 * i + o → o + (k + m) ≡ 8 → i < length s
    → get_bits s p (j + k) ≡ get_bits s p j * 2 ^ k + get_or s i 0 / 2 ^ m % 2 ^ k
unfolding get_bits
get_bits_step s p j i o k m place e h =
    rw (bits_at_add s p j k, val-append, place, bits_at_byte s i o k m e h, length-bits_of_nat, val-bits_of_nat)

-- eight bytes as a number
pub word_of_bytes : (s : List ℕ) (i x : ℕ) → i + 8 ≤ length s → Bytes s → x < 2 ^ 64 → x ≡ from_be_bytes w64 (drop i s) → x ≡ get_bits s (8 * i) 64
unfolding get_bits
word_of_bytes s i x h b small e =
    sym (rw (bits_at_bytes s i 8 h, ← be_bytes_8 (take 8 (drop i s)) x len bytes first, bits_of_high_first 8 x, val-bits_of_nat 64 x) (mod-eq_of_lt small))
  where
    long : 8 ≤ length (drop i s)
    long = omega (arith, length-drop i s)

    len : length (take 8 (drop i s)) ≡ 8
    len = length-take-le 8 (drop i s) long

    bytes : Bytes (take 8 (drop i s))
    bytes = bytes-take 8 (drop i s) (λ k. rw get_or-drop (b (i + k)))

    at : (k : ℕ) → k < 8 → get_or (take 8 (drop i s)) k 0 ≡ get_or (drop i s) k 0
    at k l = get_or-take 8 (drop i s) k 0 l

    first : x ≡ from_be_bytes w64 (take 8 (drop i s))
    first = rw (at 0 (omega arith), at 1 (omega arith), at 2 (omega arith), at 3 (omega arith), at 4 (omega arith), at 5 (omega arith), at 6 (omega arith), at 7 (omega arith)) e

-- a read within eight bytes
pub get_bits-word : (s : List ℕ) (i o n m : ℕ) → o + (n + m) ≡ 64 → i + 8 ≤ length s
    → get_bits s (8 * i) 64 / 2 ^ m % 2 ^ n ≡ get_bits s (8 * i + o) n
get_bits-word s i o n m e h = ap (λ (k : ℕ). get_bits s (8 * i) k / 2 ^ m % 2 ^ n) (sym e) ∙ get_bits-part s (8 * i) o n m (omega arith)

-- a byte more
pub get_bits-next : (s : List ℕ) (i x : ℕ) → x ≡ get_bits s 0 (8 * i) → i < length s → i < 7 → get_or s i 0 < 256
    → bit_or ((x * 2 ^ 8) % 2 ^ 64) (get_or s i 0) ≡ get_bits s 0 (8 * (i + 1))
get_bits-next s i x e l m b =
    push_is x 8 (get_or s i 0) b (rw whole (lt_of_lt_of_le (get_bits_lt s 0 (8 * (i + 1)) (omega arith)) (pow_mono {j = 64} (omega arith)))) ∙ whole
  where
    j : 8 * i + 8 ≡ 8 * (i + 1)
    j = omega arith

    whole : x * 2 ^ 8 + get_or s i 0 ≡ get_bits s 0 (8 * (i + 1))
    whole =
        rw (e, ← mod-eq_of_lt {n = get_or s i 0} {m = 2 ^ 8} b)
        (sym (rw (pow-zero, div-one, j) at (get_bits_step s 0 (8 * i) i 0 8 0 (omega arith) (omega arith) l)))

-- the first bytes, fewer than eight, pushed one behind the other
pub get_bits-all : (s : List ℕ) (i : ℕ) → Bytes s → i ≤ length s → i < 8
    → fold (λ (x b : ℕ). bit_or ((x * 2 ^ 8) % 2 ^ 64) b) 0 (take i s) ≡ get_bits s 0 (8 * i)
get_bits-all s zero hs l h = sym (get_bits-zero s 0)
get_bits-all s (suc i) hs l h =
    rw (← add-one i, fold_more _ _ s i 0 (omega arith))
    (get_bits-next s i _ (get_bits-all s i hs (omega arith) (omega arith)) (omega arith) (omega arith) (hs i))

-- the number of all bytes, fewer than eight, moved up
pub leading_all : (s : List ℕ) (p : ℕ) → length s < 8 → p < 8 * length s
    → Leading s p ((get_bits s 0 (8 * length s) * 2 ^ (64 - 8 * length s + p)) % 2 ^ 64)
leading_all s p l h n j f =
    rw (within-is (get_bits s 0 (8 * length s)) (64 - 8 * length s + p) n (omega arith), mod-mod, low)
    (rw (zero-add, all) at (get_bits-part s 0 p n (8 * length s - p - n) (omega arith)))
  where
    low : 64 - (64 - 8 * length s + p) - n ≡ 8 * length s - p - n
    low = omega arith

    all : p + (n + (8 * length s - p - n)) ≡ 8 * length s
    all = omega arith

-- the word of the last eight bytes, moved up
pub leading_word : (s : List ℕ) (i o : ℕ) → i + 8 ≡ length s → o ≤ 64 → Leading s (8 * i + o) ((get_bits s (8 * i) 64 * 2 ^ o) % 2 ^ 64)
leading_word s i o l h n j f =
    rw (within-is (get_bits s (8 * i) 64) o n (omega arith), mod-mod)
    (get_bits-word s i o n (64 - o - n) (omega arith) (omega arith))

-- the word of any eight bytes, moved up, and the ninth byte behind it
pub leading_nine : (s : List ℕ) (i o : ℕ) → i + 8 < length s → o ≤ 8 → get_or s (i + 8) 0 < 256
    → Leading s (8 * i + o) (bit_or ((get_bits s (8 * i) 64 * 2 ^ o) % 2 ^ 64) (get_or s (i + 8) 0 / 2 ^ (8 - o)))
leading_nine s i o l h b n j f =
    rw (shl_is (get_bits s (8 * i) 64) o (omega arith), or_shifted (get_bits s (8 * i) 64 % 2 ^ (64 - o)) o _ small, whole)
    (rw (add-zero, m) at (get_bits-part s (8 * i + o) 0 n (64 - n) (omega arith)))
  where
    ninth : ℕ
    ninth = get_or s (i + 8) 0

    m : 0 + (n + (64 - n)) ≡ 64
    m = omega arith

    all : 64 - o + o ≡ 64
    all = omega arith

    byte : ninth < 2 ^ (o + (8 - o))
    byte = rw (add-sub_of_le h) b

    small : ninth / 2 ^ (8 - o) < 2 ^ o
    small = shr_lt o (8 - o) byte

    front : get_bits s (8 * i) 64 % 2 ^ (64 - o) ≡ get_bits s (8 * i + o) (64 - o)
    front = rw (pow-zero, div-one) at (get_bits-word s i o (64 - o) 0 (omega arith) (omega arith))

    whole : get_bits s (8 * i) 64 % 2 ^ (64 - o) * 2 ^ o + ninth / 2 ^ (8 - o) ≡ get_bits s (8 * i + o) 64
    whole =
        rw (front, ← shr_mod {n = ninth} o (8 - o) byte)
        (sym (rw all at (get_bits_step s (8 * i + o) (64 - o) (i + 8) 0 o (8 - o) (omega arith) (omega arith) l)))

pub patch-val : (o k m b v : ℕ) → o + (k + m) ≡ 8 → b < 256
    → patch b k m v ≡ val (bits_of_nat o (b / 2 ^ (k + m)) ++ (bits_of_nat k v ++ bits_of_nat m b))
unfolding patch
patch-val o k m b v e h =
    simp
    (val-append, val-bits_of_nat, length-append, length-bits_of_nat, shr_mod {n = b} o (k + m) below)
  where
    below : b < 2 ^ (o + (k + m))
    below = rw e h

pub patch_lt : (o k m b v : ℕ) → o + (k + m) ≡ 8 → b < 256 → patch b k m v < 256
patch_lt o k m b v e h =
    rw (patch-val o k m b v e h)
    (rw len at (val_lt (bits_of_nat o (b / 2 ^ (k + m)) ++ (bits_of_nat k v ++ bits_of_nat m b))))
  where
    len : length (bits_of_nat o (b / 2 ^ (k + m)) ++ (bits_of_nat k v ++ bits_of_nat m b)) ≡ 8
    len = simp (length-append, length-bits_of_nat) e

pub put_bits_byte : (s : List ℕ) (i o k m v : ℕ) → Bytes s → o + (k + m) ≡ 8 → i < length s
    → set s i (patch (get_or s i 0) k m v) ≡ put_bits s (8 * i + o) (bits_of_nat k v)
put_bits_byte s i o k m v hs e h =
    bits_of_inj _ _ hn (bytes-put_bits s (8 * i + o) (bits_of_nat k v)) (new ∙ sym (bits_of_put_bits s (8 * i + o) (bits_of_nat k v) fits ∙ old))
  where
    nb : ℕ
    nb = patch (get_or s i 0) k m v

    hi : List Bool
    hi = bits_of_nat o (get_or s i 0 / 2 ^ (k + m))

    lo : List Bool
    lo = bits_of_nat m (get_or s i 0)

    A : List Bool
    A = bits_of (take i s)

    R : List Bool
    R = bits_of (drop (suc i) s)

    K : List Bool
    K = bits_of_nat k (get_or s i 0 / 2 ^ m)

    shape : bits_of s ≡ (A ++ hi) ++ (K ++ (lo ++ R))
    shape =
        ap bits_of (split_at s i 0 h)
        ∙ rw (bits_of_append (take i s) (get_or s i 0 ∷ drop (suc i) s), bits_of_cons (get_or s i 0), cut o k m (get_or s i 0) e) (simp append_assoc)

    lenA : length (A ++ hi) ≡ 8 * i + o
    lenA = simp (length-append, length_bits_of, length-bits_of_nat, length-take-le i s (omega arith))

    lenK : length (bits_of_nat k v) ≡ length K
    lenK = simp length-bits_of_nat

    len8 : length (hi ++ (bits_of_nat k v ++ lo)) ≡ 8
    len8 = simp (length-append, length-bits_of_nat) e

    fits : 8 * i + o + length (bits_of_nat k v) ≤ 8 * length s
    fits = omega (arith, length-bits_of_nat k v)

    nb-val : nb ≡ val (hi ++ (bits_of_nat k v ++ lo))
    nb-val = patch-val o k m (get_or s i 0) v e (hs i)

    nb-bits : bits_of_nat 8 nb ≡ hi ++ (bits_of_nat k v ++ lo)
    nb-bits = rw (nb-val, ← len8) (bits_of_nat-val (hi ++ (bits_of_nat k v ++ lo)))

    hn : Bytes (set s i nb)
    hn = bytes-set s i nb hs (patch_lt o k m (get_or s i 0) v e (hs i))

    new : bits_of (set s i nb) ≡ A ++ ((hi ++ (bits_of_nat k v ++ lo)) ++ R)
    new = rw (set_split s i nb h, bits_of_append (take i s) (nb ∷ drop (suc i) s), bits_of_cons nb, nb-bits)

    old : splice (8 * i + o) (bits_of_nat k v) (bits_of s) ≡ A ++ ((hi ++ (bits_of_nat k v ++ lo)) ++ R)
    old = rw shape (splice_mid (8 * i + o) (A ++ hi) K (bits_of_nat k v) (lo ++ R) lenA lenK ∙ simp append_assoc)

-- a write of the low bits of v is a write of all but the last k of them, and one of those behind it
pub put_bits-add : (s : List ℕ) (p j k v : ℕ) → p + j ≤ 8 * length s
    → put_bits (put_bits s p (bits_of_nat j (v / 2 ^ k))) (p + j) (bits_of_nat k v) ≡ put_bits s p (bits_of_nat (j + k) v)
put_bits-add s p j k v h =
    let l : length (bits_of_nat j (v / 2 ^ k)) ≡ j = length-bits_of_nat j _ in
    rw (bits_of_nat-add j k v, ← put_bits-append s p (bits_of_nat j (v / 2 ^ k)) (bits_of_nat k v) (rw l h), l)

-- the same, where the last k lie in one byte
pub put_bits_step : (s₀ s : List ℕ) (p j i o k m v : ℕ) → s ≡ put_bits s₀ p (bits_of_nat j (v / 2 ^ k)) → p + j ≤ 8 * length s₀
    → p + j ≡ 8 * i + o → o + (k + m) ≡ 8 → i < length s₀
    → set s i (patch (get_or s i 0) k m v) ≡ put_bits s₀ p (bits_of_nat (j + k) v)
put_bits_step s₀ s p j i o k m v es f place e h =
    rw es
    (put_bits_byte _ i o k m v (bytes-put_bits s₀ p _) e (let l : i < length (put_bits s₀ p (bits_of_nat j (v / 2 ^ k))) = rw length-put_bits h in l)
    ∙ rw (← place) (put_bits-add s₀ p j k v f))

-- a part of what is written, where the rest is what was there
pub splice-part : (q a k b r xs : List Bool) → length xs ≡ length k
    → splice (length q) (a ++ (xs ++ b)) (q ++ ((a ++ (k ++ b)) ++ r)) ≡ splice (length q + length a) xs (q ++ ((a ++ (k ++ b)) ++ r))
splice-part q a k b r xs l =
    splice_mid (length q) q (a ++ (k ++ b)) (a ++ (xs ++ b)) r refl same ∙ sym (rw regroup right)
  where
    same : length (a ++ (xs ++ b)) ≡ length (a ++ (k ++ b))
    same = simp (length-append, l)

    regroup : q ++ ((a ++ (k ++ b)) ++ r) ≡ (q ++ a) ++ (k ++ (b ++ r))
    regroup = simp append_assoc

    right : splice (length q + length a) xs ((q ++ a) ++ (k ++ (b ++ r))) ≡ q ++ ((a ++ (xs ++ b)) ++ r)
    right = splice_mid (length q + length a) (q ++ a) k xs (b ++ r) (length-append q a) l ∙ simp append_assoc

-- a word of w bits from p on, written back with v in the place of n of them
pub put_bits-word : (s : List ℕ) (p w o n m v : ℕ) → o + (n + m) ≡ w → p + w ≤ 8 * length s
    → put_bits s p (bits_of_nat w (patch (get_bits s p w) n m v)) ≡ put_bits s (p + o) (bits_of_nat n v)
put_bits-word s p w o n m v e h =
    rw (word, put_is s p (a ++ (xs ++ b)), put_is s (p + o) xs) (ap (λ (bs : List Bool). pack (length s) bs) spliced)
  where
    a : List Bool
    a = bits_at s p o

    k : List Bool
    k = bits_at s (p + o) n

    b : List Bool
    b = bits_at s (p + o + n) m

    xs : List Bool
    xs = bits_of_nat n v

    q : List Bool
    q = take p (bits_of s)

    r : List Bool
    r = drop w (drop p (bits_of s))

    la : length a ≡ o
    la = length_bits_at s p o (omega arith)

    lk : length k ≡ n
    lk = length_bits_at s (p + o) n (omega arith)

    lb : length b ≡ m
    lb = length_bits_at s (p + o + n) m (omega arith)

    lx : length xs ≡ n
    lx = length-bits_of_nat n v

    lq : length q ≡ p
    lq = length-take-le p (bits_of s) (omega (arith, length_bits_of s))

    whole_cut : bits_at s p w ≡ a ++ (k ++ b)
    whole_cut =
        ap (λ (j : ℕ). bits_at s p j) (sym e) ∙ bits_at_add s p o (n + m) ∙ ap (λ (l : List Bool). a ++ l) (bits_at_add s (p + o) n m)

    whole : val (a ++ (k ++ b)) ≡ val a * 2 ^ (n + m) + (val k * 2 ^ m + val b)
    whole = simp (val-append, length-append, lk, lb)

    x-is : get_bits s p w ≡ val a * 2 ^ (n + m) + (val k * 2 ^ m + val b)
    x-is = get_is s p w ∙ ap val whole_cut ∙ whole

    vk : val k < 2 ^ n
    vk = rw lk at (val_lt k)

    vb : val b < 2 ^ m
    vb = rw lb at (val_lt b)

    low-lt : val k * 2 ^ m + val b < 2 ^ (n + m)
    low-lt = rw (pow-add 2 n m) (digits_lt vk vb)

    top : get_bits s p w / 2 ^ (n + m) ≡ val a
    top = rw x-is (high (val a) (n + m) low-lt)

    bottom : get_bits s p w % 2 ^ m ≡ val b
    bottom =
        rw (x-is, pow-add 2 n m, ← mul_assoc, ← add_assoc (val a * 2 ^ n * 2 ^ m) (val k * 2 ^ m) (val b), ← add-mul (val a * 2 ^ n) (val k) (2 ^ m))
        (low (val a * 2 ^ n + val k) m vb)

    y-is : patch (get_bits s p w) n m v ≡ val (a ++ (xs ++ b))
    y-is = rw (patch_def, top, bottom) (simp (val-append, length-append, lx, lb, val-bits_of_nat))

    lw : length (a ++ (xs ++ b)) ≡ w
    lw = simp (length-append, la, lx, lb) e

    word : bits_of_nat w (patch (get_bits s p w) n m v) ≡ a ++ (xs ++ b)
    word = rw y-is (rw lw at (bits_of_nat-val (a ++ (xs ++ b))))

    shape : bits_of s ≡ q ++ ((a ++ (k ++ b)) ++ r)
    shape =
        sym (take-append-drop p (bits_of s))
        ∙ ap (λ (l : List Bool). q ++ l) (sym (take-append-drop w (drop p (bits_of s))) ∙ ap (λ (l : List Bool). l ++ r) (sym (at-is s p w) ∙ whole_cut))

    spliced : splice p (a ++ (xs ++ b)) (bits_of s) ≡ splice (p + o) xs (bits_of s)
    spliced = rw shape (rw lq at (splice-part q a k b r xs (lx ∙ sym lk))) ∙ ap (λ (j : ℕ). splice (p + j) xs (bits_of s)) la

-- all bits that are put
pub put_whole : (s : List ℕ) (xs : List Bool) → length xs ≡ 8 * length s → bits_of (put_bits s 0 xs) ≡ xs
put_whole s xs l =
    bits_of_put_bits s 0 xs (omega arith)
    ∙ rw (append-nil (bits_of s), append-nil xs) at (splice_mid 0 [] (bits_of s) xs [] refl (l ∙ sym (length_bits_of s)))

-- some bytes of s as a number
pub get_part : (s : List ℕ) (i k : ℕ) → i + k ≤ length s → get_bits (take k (drop i s)) 0 (8 * length (take k (drop i s))) ≡ get_bits s (8 * i) (8 * k)
unfolding get_bits
get_part s i k h =
    let t = take k (drop i s) in
    ap val (rw (take_all (length t) t (omega arith)) at (bits_at_bytes t 0 (length t) (omega arith)) ∙ sym (bits_at_bytes s i k h))

-- a number that is put into them
pub put_part : (s : List ℕ) (i k x : ℕ) → i + k ≤ length s
    → Bytes (put_mid i k s (put_bits (take k (drop i s)) 0 (bits_of_nat (8 * length (take k (drop i s))) x)))
    → put_mid i k s (put_bits (take k (drop i s)) 0 (bits_of_nat (8 * length (take k (drop i s))) x)) ≡ put_bits s (8 * i) (bits_of_nat (8 * k) x)
put_part s i k x h b =
    let t = take k (drop i s) in
    let l : length t ≡ k = length-take-le k (drop i s) (omega (arith, length-drop i s)) in
    put_bytes s _ i k (sym (length-put_bits t 0 _ ∙ l)) h b
    ∙ ap (put_bits s (8 * i)) (put_whole t _ (length-bits_of_nat _ _) ∙ ap (λ (j : ℕ). bits_of_nat (8 * j) x) l)

one_byte : (t : List ℕ) (y : ℕ) → length t ≡ 1 → set t 0 y ≡ y ∷ []
one_byte [] y e = absurd (omega arith)
one_byte (b ∷ []) y e = refl
one_byte (b ∷ (c ∷ t)) y e = absurd (omega arith)

-- all bytes of a number, the last one behind the others
pub last_byte : (s r t : List ℕ) (x : ℕ) → length s ≡ length r + 1 → length t ≡ 1
    → Bytes (put_bits r 0 (bits_of_nat (8 * length r) (x / 256)) ++ set t 0 (x % 256))
    → put_bits r 0 (bits_of_nat (8 * length r) (x / 256)) ++ set t 0 (x % 256) ≡ put_bits s 0 (bits_of_nat (8 * length s) x)
last_byte s r t x l k h = bits_of_inj _ _ h (bytes-put_bits s 0 _) (bits ∙ sym (put_whole s _ (length-bits_of_nat _ _)))
  where
    size : 8 * length s ≡ 8 * length r + 8
    size = omega arith

    bits : bits_of (put_bits r 0 (bits_of_nat (8 * length r) (x / 256)) ++ set t 0 (x % 256)) ≡ bits_of_nat (8 * length s) x
    bits =
        rw (one_byte t (x % 256) k, bits_of_append, put_whole r _ (length-bits_of_nat _ _), bits_of_cons, bits_of_nil, append-nil, size, bits_of_nat-add (8 * length r) 8 x)
        (ap (λ (l : List Bool). bits_of_nat (8 * length r) (x / 256) ++ l) (bits_of_nat-mod 8 (x % 256) x (mod-mod x 256)))
