-- Lists of bits as numbers.
use Rattle.std.specs.Prelude.{ℕ, zero, suc, ◌+◌, ◌*◌, ◌/◌, ◌%◌, ◌^◌, ◌<◌, ◌≡◌, refl, [], List, ◌∷◌, ◌++◌, Bool, true, false, length, replicate, eqb}
use Rattle.std.proofs.Common.{sym, ap, ap₂, ◌∙◌, zero-add, suc-add, mod-lt, mod-eq_of_lt, mul_assoc, add-mul, add_assoc, pow-suc, mul_comm, add_comm, one-add, arith, length-append, pow-add, shr-shr}
use Rattle.std.proofs.Math.Nat.{zero-div, mod-one}
use Rattle.std.proofs.lemmas.Nat.{mod-pow-add}
use Rattle.std.proofs.Math.Pow.{high, low}
use Rattle.std.proofs.Math.Arith.{digits_lt}
use Rattle.bits.specs.Bits.{digit, odd, val, bits_of_nat}

pub digit-odd : (n : ℕ) → digit (odd n) ≡ n % 2
unfolding odd
digit-odd n = go (n % 2) (mod-lt n (omega arith))
  where
    go : (m : ℕ) → m < 2 → digit (eqb m 1) ≡ m
    go zero h = refl
    go (suc zero) h = refl
    go (suc (suc m)) h = absurd (omega arith)

pub digit_lt : (b : Bool) → digit b < 2
digit_lt false = omega arith
digit_lt true = omega arith

pub digit_inj : (a b : Bool) → digit a ≡ digit b → a ≡ b
digit_inj false false e = refl
digit_inj false true e = absurd (omega arith)
digit_inj true false e = absurd (omega arith)
digit_inj true true e = refl

pub val-nil : val [] ≡ 0
unfolding val
val-nil = refl

pub val-cons : (x : Bool) (xs : List Bool) → val (x ∷ xs) ≡ digit x * 2 ^ length xs + val xs
unfolding val
val-cons x xs = refl

pub bits-zero : (v : ℕ) → bits_of_nat zero v ≡ []
unfolding bits_of_nat
bits-zero v = refl

pub bits-suc : (n v : ℕ) → bits_of_nat (suc n) v ≡ odd (v / 2 ^ n) ∷ bits_of_nat n v
unfolding bits_of_nat
bits-suc n v = refl

pub val-append : (xs ys : List Bool) → val (xs ++ ys) ≡ val xs * 2 ^ length ys + val ys
val-append [] ys = rw val-nil (omega arith)
val-append (x ∷ xs) ys =
    rw (val-cons x (xs ++ ys), val-cons x xs, length-append xs ys, pow-add 2, val-append xs ys, add-mul, mul_assoc, add_assoc)

pub val_lt : (xs : List Bool) → val xs < 2 ^ length xs
val_lt [] = rw val-nil (omega arith)
val_lt (x ∷ xs) = rw (val-cons, pow-suc) (omega (arith, digits_lt (digit_lt x) (val_lt xs), mul_comm (2 ^ length xs) 2))

pub length-bits_of_nat : (n v : ℕ) → length (bits_of_nat n v) ≡ n
length-bits_of_nat zero v = rw bits-zero
length-bits_of_nat (suc n) v = rw bits-suc (ap suc (length-bits_of_nat n v))

pub val-bits_of_nat : (n v : ℕ) → val (bits_of_nat n v) ≡ v % 2 ^ n
val-bits_of_nat zero v = rw (bits-zero, val-nil) (sym (mod-one v))
val-bits_of_nat (suc n) v = rw (bits-suc, val-cons, length-bits_of_nat, val-bits_of_nat n v, digit-odd, ← one-add n) (sym (mod-pow-add v 1 n))

-- two lists of bits of one length that read as one number are one list: how an equation of bits is shown by numbers
pub val_inj : (xs ys : List Bool) → length xs ≡ length ys → val xs ≡ val ys → xs ≡ ys
val_inj [] [] e h = refl
val_inj [] (y ∷ ys) e h = absurd (omega arith)
val_inj (x ∷ xs) [] e h = absurd (omega arith)
val_inj (x ∷ xs) (y ∷ ys) e h = ap₂ (λ (a : Bool) (l : List Bool). a ∷ l) same (val_inj xs ys el rest)
  where
    el : length xs ≡ length ys
    el = omega arith

    whole : digit x * 2 ^ length xs + val xs ≡ digit y * 2 ^ length xs + val ys
    whole = sym (val-cons x xs) ∙ h ∙ val-cons y ys ∙ ap (λ (k : ℕ). digit y * 2 ^ k + val ys) (sym el)

    below : val ys < 2 ^ length xs
    below = rw el (val_lt ys)

    same : x ≡ y
    same = digit_inj x y (sym (high (digit x) (length xs) (val_lt xs)) ∙ ap (λ (k : ℕ). k / 2 ^ length xs) whole ∙ high (digit y) (length xs) below)

    rest : val xs ≡ val ys
    rest = sym (low (digit x) (length xs) (val_lt xs)) ∙ ap (λ (k : ℕ). k % 2 ^ length xs) whole ∙ low (digit y) (length xs) below

pub bits_of_nat-val : (xs : List Bool) → bits_of_nat (length xs) (val xs) ≡ xs
bits_of_nat-val xs =
    val_inj _ _ (length-bits_of_nat (length xs) (val xs)) (val-bits_of_nat (length xs) (val xs) ∙ mod-eq_of_lt (val_lt xs))

-- only the n low bits count
pub bits_of_nat-mod : (n v w : ℕ) → v % 2 ^ n ≡ w % 2 ^ n → bits_of_nat n v ≡ bits_of_nat n w
bits_of_nat-mod n v w e =
    val_inj _ _ (length-bits_of_nat n v ∙ sym (length-bits_of_nat n w)) (val-bits_of_nat n v ∙ e ∙ sym (val-bits_of_nat n w))

pub bits_of_nat-add : (j k v : ℕ) → bits_of_nat (j + k) v ≡ bits_of_nat j (v / 2 ^ k) ++ bits_of_nat k v
bits_of_nat-add zero k v = rw (zero-add, bits-zero)
bits_of_nat-add (suc j) k v =
    rw (suc-add j k, bits-suc (j + k) v, bits-suc j (v / 2 ^ k), bits_of_nat-add j k v, shr-shr v k j, add_comm k j)

-- the bits of 0
pub bits-of-zero : (n : ℕ) → bits_of_nat n 0 ≡ replicate n false
unfolding odd
bits-of-zero zero = bits-zero 0
bits-of-zero (suc n) = rw (bits-suc, zero-div, bits-of-zero n)
