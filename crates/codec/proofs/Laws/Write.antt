-- The laws of specs/Write.antt.
use Rattle.std.specs.Prelude.{ℕ, zero, suc, ◌≡◌, refl, List, [], ◌∷◌, Bool, true, false, length, leb, Err, Ok}
use Rattle.std.proofs.Common.{sym, ◌∙◌, arith, leb-true, le-leb}
use Rattle.bits.specs.Bits.{put_bits}
use Rattle.tetra_core.specs.BitBuffer.{good_window, remaining, moved, moves, bytes_after}
use Rattle.tetra_core.specs.Refusal.{number, unless, first, first-none, passed}
use Rattle.tetra_core.specs.Laws.Windows.{good_facts, good_test, move_refused, move_done, bytes-stay, bytes-done}
use Rattle.tetra_core.specs.declared.bitbuffer.Cursor.{Cursor}
use Rattle.tetra_core.specs.declared.refusal.Reason.{Reason}
use Rattle.codec.specs.Write.{refusal_at, write_at, written_at, Free}

pub free : (len : ℕ) (c : Cursor) (j n : ℕ) → refusal_at len c j n ≡ 0 → Free len c j n
unfolding refusal_at
free len c j n e =
    let w = first-none (unless (good_window len c) 13) _ e in
    let x = first-none j _ w.1 in
    let y = first-none (unless (leb n (remaining c)) 2) _ x.1 in
    let g = good_facts len c (passed _ 12 w.0) in
    let r = leb-true n (remaining c) (passed _ 1 y.0) in
    record { good = g; value = x.0; room = omega arith }

pub free_test : (len : ℕ) (c : Cursor) (j n : ℕ) → Free len c j n → refusal_at len c j n ≡ 0
unfolding refusal_at first
free_test len c j n f = simp (good_test len c f.good, f.value, le-leb n (remaining c) (omega arith))

-- the two returns of a call: i is the value's refusal and r the call's, n is the number of bits, as the code has them
pub write_refused : (s : List ℕ) (c : Cursor) (xs : List Bool) {i j n : ℕ} {r : Reason} → length xs ≡ n → i ≡ j → number r ≡ refusal_at (length s) c i n
    → (record { cursor = c; answer = Err r } ≡ write_at s c j xs) × (s ≡ written_at s c j xs)
unfolding write_at written_at
write_refused s c xs l v e = rw (l, ← v) (move_refused _ _ _ _ e, bytes-stay _ _ _ _ e)

pub write_done : (s : List ℕ) (c : Cursor) (xs : List Bool) {i j n r : ℕ} {t : List ℕ} → length xs ≡ n → i ≡ j → r ≡ refusal_at (length s) c i n → r ≡ 0
    → t ≡ put_bits s c.pos xs → (record { cursor = moved c n; answer = (Ok tt) } ≡ write_at s c j xs) × (t ≡ written_at s c j xs)
unfolding write_at written_at
write_done s c xs l v e z p = rw (l, ← v) (move_done _ _ _ (sym e ∙ z), p ∙ bytes-done _ _ _ (sym e ∙ z))

-- of a value that is refused the bits are not looked at
refused-same : (len : ℕ) (c : Cursor) (j m n : ℕ) → refusal_at len c (suc j) m ≡ refusal_at len c (suc j) n
unfolding refusal_at first
refused-same len c j m n = go (good_window len c)
  where
    go : (b : Bool) → first (unless b 13 ∷ suc j ∷ unless (leb m (remaining c)) 2 ∷ []) ≡ first (unless b 13 ∷ suc j ∷ unless (leb n (remaining c)) 2 ∷ [])
    go true = refl
    go false = refl

-- and neither is where the cursor would move, nor what would be written
unmoved : (k : ℕ) (c d e : Cursor) → (k ≡ 0 → ⊥) → moves k c d ≡ moves k c e
unmoved zero c d e h = absurd (h refl)
unmoved (suc k) c d e h = refl

unwritten : (k : ℕ) (s t u : List ℕ) → (k ≡ 0 → ⊥) → bytes_after k s t ≡ bytes_after k s u
unwritten zero s t u h = absurd (h refl)
unwritten (suc k) s t u h = refl

pub write_same : (s : List ℕ) (c : Cursor) (i j : ℕ) (xs ys : List Bool) → i ≡ j → (j ≡ 0 → xs ≡ ys)
    → (write_at s c i xs ≡ write_at s c j ys) × (written_at s c i xs ≡ written_at s c j ys)
unfolding write_at written_at
write_same s c i zero xs ys e h = rw (e, h refl) (refl, refl)
write_same s c i (suc j) xs ys e h =
    let some : refusal_at (length s) c (suc j) (length ys) ≡ 0 → ⊥ = λ z. omega (arith, (free _ _ _ _ z).value) in
    rw (e, refused-same (length s) c j (length xs) (length ys)) (unmoved _ _ _ _ some, unwritten _ _ _ _ some)
