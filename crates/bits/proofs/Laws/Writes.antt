-- Bits written at a place, and what a read finds after a write.
use Rattle.std.specs.Prelude.{ℕ, ◌+◌, ◌-◌, ◌*◌, ◌^◌, ◌≤◌, ◌<◌, ◌≡◌, refl, Bool, take}
use Rattle.std.proofs.Math.Path.{sym}
use Rattle.std.proofs.Common.{ap, ◌∙◌, mod-eq_of_lt, arith, length-take-le, take-take, drop_at, take-add}
use mathlib.Core.List.{[], List, ◌++◌}
use Rattle.std.proofs.Math.ListN.{length, drop, length-drop}
use borrow.Rule.Slice.PartMut.{put_mid}
use Rattle.std.proofs.Math.Seq.{drop-drop}
use Rattle.bits.specs.Bits.{val, bits_of_nat, bits_of, pack, splice, bits_at, get_bits, put_bits, Bytes}
use Rattle.bits.proofs.Laws.Values.{length-bits_of_nat, val-bits_of_nat}
use Rattle.bits.proofs.Laws.Bytes.{length_bits_of, bits_of_append, take_bits_of, drop_bits_of, length-pack, bits_of_pack, pack_bits_of, bits_of_inj, bytes-pack}
use Rattle.bits.proofs.Laws.Splice.{length-splice, splice-nil, splice-append, splice_at, splice-after}

pub put_is : (s : List ℕ) (p : ℕ) (xs : List Bool) → put_bits s p xs ≡ pack (length s) (splice p xs (bits_of s))
unfolding put_bits
put_is s p xs = refl

pub length-put_bits : (s : List ℕ) (p : ℕ) (xs : List Bool) → length (put_bits s p xs) ≡ length s
unfolding put_bits
length-put_bits s p xs = length-pack (length s) _

pub bytes-put_bits : (s : List ℕ) (p : ℕ) (xs : List Bool) → Bytes (put_bits s p xs)
unfolding put_bits
bytes-put_bits s p xs = bytes-pack (length s) _

pub bits_of_put_bits : (s : List ℕ) (p : ℕ) (xs : List Bool) → p + length xs ≤ 8 * length s → bits_of (put_bits s p xs) ≡ splice p xs (bits_of s)
unfolding put_bits
bits_of_put_bits s p xs h =
    bits_of_pack (length s) (splice p xs (bits_of s))
    (length-splice p xs (bits_of s) (omega (arith, length_bits_of s)) ∙ length_bits_of s)

pub put_bits-nil : (s : List ℕ) (p : ℕ) → Bytes s → put_bits s p [] ≡ s
unfolding put_bits
put_bits-nil s p h = rw splice-nil (pack_bits_of s h)

pub put_bits-append : (s : List ℕ) (p : ℕ) (xs ys : List Bool) → p + length xs ≤ 8 * length s
    → put_bits (put_bits s p xs) (p + length xs) ys ≡ put_bits s p (xs ++ ys)
put_bits-append s p xs ys h =
    rw (
      put_is (put_bits s p xs),
      length-put_bits,
      bits_of_put_bits s p xs h,
      splice-append p xs ys (bits_of s) (omega (arith, length_bits_of s)),
      put_is s p (xs ++ ys),
    )

-- whole bytes that are written
pub put_bytes : (s ys : List ℕ) (i k : ℕ) → k ≡ length ys → i + k ≤ length s → Bytes (put_mid i k s ys) → put_mid i k s ys ≡ put_bits s (8 * i) (bits_of ys)
put_bytes s ys i k e l h =
    bits_of_inj _ _ h (bytes-put_bits s (8 * i) (bits_of ys))
    (new ∙ sym (bits_of_put_bits s (8 * i) (bits_of ys) (omega (arith, length_bits_of ys))))
  where
    places : 8 * (i + k) ≡ 8 * i + length (bits_of ys)
    places = omega (arith, length_bits_of ys)

    new : bits_of (put_mid i k s ys) ≡ splice (8 * i) (bits_of ys) (bits_of s)
    new =
        unfold splice in
        (rw (bits_of_append, bits_of_append, ← take_bits_of i s (omega arith), drop-drop k i s, ← drop_bits_of (i + k) s (omega arith), places))

-- a part of what two lists share
take-drop : (q m : ℕ) (l : List Bool) → q ≤ length l → take m (drop q l) ≡ drop q (take (q + m) l)
take-drop q m l h = rw (take-add q m l) (sym (drop_at (take q l) (take m (drop q l)) q (length-take-le q l h)))

pub bits_at_put_bits : (s : List ℕ) (p : ℕ) (xs : List Bool) → p + length xs ≤ 8 * length s → bits_at (put_bits s p xs) p (length xs) ≡ xs
unfolding bits_at
bits_at_put_bits s p xs h = rw (bits_of_put_bits s p xs h) (splice_at p xs (bits_of s) (omega (arith, length_bits_of s)))

pub bits_at_after : (s : List ℕ) (p : ℕ) (xs : List Bool) (q m : ℕ) → p + length xs ≤ 8 * length s → p + length xs ≤ q
    → bits_at (put_bits s p xs) q m ≡ bits_at s q m
unfolding bits_at
bits_at_after s p xs q m h l =
    rw (bits_of_put_bits s p xs h) (ap (λ (bs : List Bool). take m bs) same)
  where
    e : q ≡ p + length xs + (q - (p + length xs))
    e = omega arith

    same : drop q (splice p xs (bits_of s)) ≡ drop q (bits_of s)
    same =
        rw (e, ← drop-drop (q - (p + length xs)) (p + length xs) (splice p xs (bits_of s)), splice-after p xs (bits_of s) (omega (arith, length_bits_of s)))
        (drop-drop (q - (p + length xs)) (p + length xs) (bits_of s))

-- a read of the bits that a value was written in finds the value
pub get_bits-put_bits : (s : List ℕ) (p n v : ℕ) → p + n ≤ 8 * length s → v < 2 ^ n → get_bits (put_bits s p (bits_of_nat n v)) p n ≡ v
unfolding get_bits
get_bits-put_bits s p n v h hv =
    ap val (rw (length-bits_of_nat n v) at (bits_at_put_bits s p (bits_of_nat n v) (rw (length-bits_of_nat n v) h)))
    ∙ val-bits_of_nat n v ∙ mod-eq_of_lt hv

-- any part of what was written
pub bits_at_inside : (s : List ℕ) (p : ℕ) (xs : List Bool) (j k : ℕ) → p + length xs ≤ 8 * length s → j + k ≤ length xs
    → bits_at (put_bits s p xs) (p + j) k ≡ take k (drop j xs)
bits_at_inside s p xs j k h l =
    unfold bits_at in
    (rw (← drop-drop j p (bits_of (put_bits s p xs)), take-drop j k (drop p (bits_of (put_bits s p xs))) long)
    (ap (λ (bs : List Bool). drop j bs) same ∙ sym (take-drop j k xs (omega arith))))
  where
    long : j ≤ length (drop p (bits_of (put_bits s p xs)))
    long = omega (arith, length-drop p (bits_of (put_bits s p xs)), length_bits_of (put_bits s p xs), length-put_bits s p xs)

    same : take (j + k) (drop p (bits_of (put_bits s p xs))) ≡ take (j + k) xs
    same =
        sym (take-take (j + k) (length xs) (drop p (bits_of (put_bits s p xs))) l)
        ∙ ap (λ (bs : List Bool). take (j + k) bs) (unfold bits_at in bits_at_put_bits s p xs h)
