-- What each loop of bitarr.rt makes.
use Prim.Native.Nat.{ℕ, zero, suc, ◌+◌, ◌-◌, ◌*◌, ◌/◌, ◌%◌, ◌^◌, ◌≤◌, ◌<◌}
use mathlib.Core.Path.{◌≡◌, ap, ◌∙◌}
use mathlib.Core.List.{List, [], ◌∷◌, ◌++◌, map, map-append}
use native.Mathlib.Nat.{pow-suc}
use native.Mathlib.Omega.{arith}
use lib.ListN.{length, get_or, length-map}
use lib.Pow.{pow_mono}
use Rattle.std.specs.List.{fold}
use Rattle.std.specs.Int.Bits.{bit_or}
use Rattle.bits.specs.Bits.{digit, odd, val, bits_of_nat, bits_at, get_bits, put_bits, Bytes}
use Rattle.bits.proofs.Laws.Values.{digit-odd, val-nil, val-cons, val_lt, bits-suc, bits_of_nat-val}
use Rattle.bits.proofs.Laws.Shifts.{push_is}
use Rattle.bits.proofs.Laws.Reads.{bits_at_zero, bits_at_add, bits_of_nat-get_bits}
use Rattle.bits.proofs.Laws.Writes.{put_bits-nil, put_bits-append}

-- the bit i of the k bits of x
pub bit_at : (k i x : ℕ) → i < k → get_or (map digit (bits_of_nat k x)) i 0 ≡ x / 2 ^ (k - 1 - i) % 2
bit_at zero i x h = absurd (omega arith)
bit_at (suc k) zero x h = rw bits-suc (digit-odd (x / 2 ^ k) ∙ ap (λ (j : ℕ). x / 2 ^ j % 2) (omega arith))
bit_at (suc k) (suc i) x h = rw bits-suc (bit_at k i x (omega arith) ∙ ap (λ (j : ℕ). x / 2 ^ j % 2) (omega arith))

-- no byte, and the bytes of k bits before those of the bits behind them
pub spread_none : (b s : List ℕ) (p : ℕ) → length b ≡ 0 → b ≡ map digit (bits_at s p (length b))
spread_none [] s p e = rw bits_at_zero
spread_none (x ∷ b) s p e = absurd (omega arith)

pub spread_turn : (s : List ℕ) (p k m n : ℕ) {b c : List ℕ}
    → b ≡ map digit (bits_of_nat k (get_bits s p k)) → c ≡ map digit (bits_at s (p + k) m) → k + m ≡ n → p + n ≤ 8 * length s → b ++ c ≡ map digit (bits_at s p n)
spread_turn s p k m n d e h l =
    rw (d, e, bits_of_nat-get_bits s p k (omega arith), ← map-append digit (bits_at s p k) (bits_at s (p + k) m), ← bits_at_add s p k m, h)

-- a number with a byte's low bit put behind it
abbrev pub push : ℕ → ℕ → ℕ
push a b = bit_or (a * 2 % 2 ^ 64) (b % 2)

push-is : (k a b : ℕ) → a < 2 ^ k → k < 64 → push a b ≡ a * 2 + b % 2
push-is k a b h l = push_is a 1 (b % 2) (omega arith) (omega (arith, pow_mono {i = k} {j = 63} (omega arith)))

-- numbers of k bits
gathered_on : (bs : List ℕ) (k a : ℕ) → a < 2 ^ k → k + length bs ≤ 64 → fold push a bs ≡ a * 2 ^ length bs + val (map odd bs)
gathered_on [] k a h l = rw val-nil (omega arith)
gathered_on (b ∷ bs) k a h l =
    let e = push-is k a b h (omega arith) in
    let w : a * 2 + b % 2 < 2 ^ suc k = rw pow-suc (omega arith) in
    rw (e, gathered_on bs (suc k) (a * 2 + b % 2) w (omega arith), val-cons, length-map bs odd, digit-odd, pow-suc) (omega arith)

pub gathered : (bs : List ℕ) → length bs ≤ 64 → fold push 0 bs ≡ val (map odd bs)
gathered bs l = gathered_on bs 0 0 (omega arith) (omega arith) ∙ omega arith

pub gathered_lt : (bs : List ℕ) → val (map odd bs) < 2 ^ length bs
gathered_lt bs = rw (length-map bs odd) at (val_lt (map odd bs))

-- no byte put, and some bytes before the rest
pub gather_none : (s : List ℕ) (p : ℕ) (bs : List ℕ) → Bytes s → length bs ≡ 0 → put_bits s p (map odd bs) ≡ s
gather_none s p [] h e = put_bits-nil s p h
gather_none s p (b ∷ bs) h e = absurd (omega arith)

pub gather_turn : (s : List ℕ) (p : ℕ) (bs rest : List ℕ) {t : List ℕ} {v : ℕ} → v ≡ val (map odd bs)
    → t ≡ put_bits s p (bits_of_nat (length bs) v) → p + length bs ≤ 8 * length s
    → put_bits t (p + length bs) (map odd rest) ≡ put_bits s p (map odd (bs ++ rest))
gather_turn s p bs rest e d h =
    let n = length-map bs odd in
    let put = put_bits-append s p (map odd bs) (map odd rest) (omega (arith, n)) in
    rw (d, e, map-append odd bs rest, ← n, bits_of_nat-val (map odd bs)) put
