-- One call of the writer: what it changes, what it leaves alone, and that nothing changes once a finish ran.
use Rattle.std.specs.Prelude.{◌≡◌, ◌⊎◌, Bool, true, ℕ, zero, suc, ◌+◌, ◌-◌, ◌*◌, ◌%◌, ◌≤◌, ◌<◌, leb}
use Rattle.std.proofs.Math.Path.{refl, ap}
use Rattle.std.proofs.Common.{sym, ◌∙◌, inr, arith}
use Rattle.std.proofs.Math.Logic.{inl}
use mathlib.Core.List.{List, [], ◌∷◌}
use Rattle.std.proofs.Math.Nat.{le_refl}
use Rattle.std.proofs.Math.Decide.{dec_le}
use Rattle.std.proofs.lemmas.Bool.{lt-leb}
use Rattle.std.proofs.Math.ListN.{length}
use Rattle.bits.specs.Bits.{put_bits, Bytes}
use Rattle.tetra_core.specs.Quantity.{octets_of}
use Rattle.tetra_core.specs.Refusal.{unless, first}
use Rattle.bits.proofs.Laws.Writes.{length-put_bits, bytes-put_bits, put_bits-nil}
use Rattle.block_rules.specs.Numbers.{least_bits}
use Rattle.block_rules.specs.Codec.{HeaderWriter, Codec, Laws}
use Rattle.block_rules.specs.Ending.{Ending, pdu_size}
use Rattle.block_rules.specs.Writer.{fill_bits, finish_bits, good_bit, Writer, after, finished, finish_to, Add, total, total_of, size_of, refusal_of, add_check, add_refusal, added_bits, added, add_to}
use Rattle.block_rules.specs.Run.{Call, Item, item_at, if_accepted, perform, refusal, run, accepted}
use Rattle.block_rules.specs.Altered.{bit_at}
use Rattle.block_rules.specs.Demand3.{IsBlock}
use Rattle.block_rules.proofs.Laws.Blocks.{good-block, put-outside}
use Rattle.block_rules.proofs.Laws.Refusals.{Placed, placed, good-bit, finish-free, finish_accepted, check-free, Free, free}
use Rattle.block_rules.proofs.Laws.WrittenBack.{enough, length_added, length-finish}

-- ---- a number that refuses, and 0

pub after-zero : (j : ℕ) (w w' : Writer) → j ≡ 0 → after j w w' ≡ w'
unfolding after
after-zero zero w w' e = refl
after-zero (suc j) w w' e = absurd (omega arith)

pub after-refused : (j : ℕ) (w w' : Writer) → (j ≡ 0 → ⊥) → after j w w' ≡ w
unfolding after
after-refused zero w w' h = absurd (h refl)
after-refused (suc j) w w' h = refl

after_ind : (j : ℕ) (w w' : Writer) (P : Writer → Type 0) → P w → (j ≡ 0 → P w') → P (after j w w')
unfolding after
after_ind zero w w' P x y = y refl
after_ind (suc j) w w' P x y = x

if_accepted_lem : {A : Type 0} (j : ℕ) (x : Item A) (xs : List (Item A)) → j ≡ 0 → if_accepted j x xs ≡ x ∷ xs
unfolding if_accepted
if_accepted_lem zero x xs e = refl
if_accepted_lem (suc j) x xs e = absurd (omega arith)

if_refused : {A : Type 0} (j : ℕ) (x : Item A) (xs : List (Item A)) → (j ≡ 0 → ⊥) → if_accepted j x xs ≡ xs
unfolding if_accepted
if_refused zero x xs h = absurd (h refl)
if_refused (suc j) x xs h = refl

module _ {A : Type 0} (W : HeaderWriter A) (n : ℕ) where
  pub refused_call : (w : Writer) (c : Call A) → (refusal W n c w ≡ 0 → ⊥) → perform W n c w ≡ w
  unfolding perform refusal add_to finish_to
  refused_call w (Call.add a) e = after-refused _ w (added W n w a) e
  refused_call w Call.finish e = after-refused _ w (finished n w) e

  pub accepted_call : (w : Writer) (a : Add A) → refusal W n (Call.add a) w ≡ 0 → perform W n (Call.add a) w ≡ added W n w a
  unfolding perform refusal add_to
  accepted_call w a e = after-zero _ w (added W n w a) e

  pub accepted_add : (a : Add A) (cs : List (Call A)) (w : Writer) → refusal W n (Call.add a) w ≡ 0
      → accepted W n (Call.add a ∷ cs) w ≡ item_at w.bit a ∷ accepted W n cs (added W n w a)
  unfolding accepted
  accepted_add a cs w e = if_accepted_lem _ _ _ e ∙ ap (λ u. item_at w.bit a ∷ accepted W n cs u) (accepted_call w a e)

  pub accepted_refused : (a : Add A) (cs : List (Call A)) (w : Writer) → (refusal W n (Call.add a) w ≡ 0 → ⊥)
      → accepted W n (Call.add a ∷ cs) w ≡ accepted W n cs w
  unfolding accepted
  accepted_refused a cs w e = if_refused _ _ _ e ∙ ap (accepted W n cs) (refused_call w (Call.add a) e)

-- a third number counts only where the second is 0
first_third : (a b c d : ℕ) → (b ≡ 0 → c ≡ d) → first (a ∷ b ∷ c ∷ []) ≡ first (a ∷ b ∷ d ∷ [])
unfolding first
first_third zero zero c d h = ap (λ x. first (x ∷ [])) (h refl)
first_third zero (suc b) c d h = refl
first_third (suc a) b c d h = refl

-- ---- bits outside of what is written

-- the writer's bit behind k bits of header and content
next_place : (i : Ending) (n p k : ℕ) → least_bits ≤ n - p → k ≤ n - p → Placed n p → Placed n (p + pdu_size i (n - p) k)
unfolding pdu_size
next_place (Ending.WithBlock mark) n p k u v at = record { inside = omega arith; octet = inl (omega arith) }
next_place Ending.Counted n p k u v at = go at.octet (dec_le (8 * octets_of k) (n - p))
  where
    go : (p ≡ n) ⊎ (p % 8 ≡ 0) → Dec (8 * octets_of k ≤ n - p) → Placed n (p + pdu_size Ending.Counted (n - p) k)
    go (inl e) d = absurd (omega arith)
    go (inr e) (yes h) = record { inside = omega arith; octet = inr (omega arith) }
    go (inr e) (no h) = record { inside = omega arith; octet = inl (omega arith) }

module _ {A H : Type 0} (C : Codec A H) (L : Laws C) (n : ℕ) (w : Writer) (a : Add A) (f : Free C.writer n w a) where
  pub room : least_bits ≤ n - w.bit
  room = enough C L a.header (n - w.bit) (total_of C.writer a) f.fine (omega arith) f.small f.fits

  pub added_place : Placed n (w.bit + size_of C.writer (n - w.bit) a)
  added_place = next_place (C.writer.ending a.header) n w.bit (total_of C.writer a) room f.fits f.at

  add-outside : (j : ℕ) → (j < w.bit) ⊎ ((added C.writer n w a).bit ≤ j) → bit_at (added C.writer n w a).bytes j ≡ bit_at w.bytes j
  unfolding added
  add-outside j out =
      put-outside w.bytes w.bit (added_bits C.writer (n - w.bit) a) j
      (omega (arith, length_added C L n w a f, added_place.inside, f.holds.inside)) (rw (length_added C L n w a f) out)

finish-outside : (n : ℕ) (w : Writer) → IsBlock n w.bytes → Placed n w.bit → (j : ℕ) → (j < w.bit) ⊎ ((finished n w).bit ≤ j)
    → bit_at (finished n w).bytes j ≡ bit_at w.bytes j
unfolding finished
finish-outside n w holds at j out =
    let e : w.bit + (n - w.bit) ≡ n = omega arith in
    put-outside w.bytes w.bit (finish_bits (n - w.bit)) j (omega (arith, length-finish (n - w.bit))) (rw (length-finish (n - w.bit), e) out)

-- ---- a finished writer: at N, with bytes for its bytes

pub record Finished (n : ℕ) (w : Writer) : Type 0 where
  pub holds : IsBlock n w.bytes
  pub at : w.bit ≡ n
  pub are_bytes : Bytes w.bytes

pub holds-put : {n : ℕ} {v : List ℕ} → IsBlock n v → (p : ℕ) (xs : List Bool) → IsBlock n (put_bits v p xs)
holds-put {n} {v} holds p xs = record { limit = holds.limit; inside = rw (length-put_bits v p xs) holds.inside }

pub now_finished : (n : ℕ) (w : Writer) → IsBlock n w.bytes → Finished n (finished n w)
unfolding finished
now_finished n w holds =
    let xs : List Bool = finish_bits (n - w.bit) in
    record { holds = holds-put holds w.bit xs; at = refl; are_bytes = bytes-put_bits w.bytes w.bit xs }

finished-again : (n : ℕ) (w : Writer) → Finished n w → finished n w ≡ w
unfolding finished finish_bits fill_bits
finished-again n w f =
    let none_left : n - w.bit ≡ 0 = omega arith in
    let same : put_bits w.bytes w.bit (finish_bits (n - w.bit)) ≡ w.bytes = rw none_left (put_bits-nil w.bytes w.bit f.are_bytes) in
    λ i. record { bytes = same i; bit = sym f.at i }

-- ---- any call

-- what holds of the writer, and of what an accepted add or finish leaves, holds of what a call leaves
module _ {A : Type 0} (W : HeaderWriter A) (n : ℕ) where
  call_ind : (w : Writer) (P : Writer → Type 0) → P w → ((a : Add A) → Free W n w a → P (added W n w a))
      → (IsBlock n w.bytes → Placed n w.bit → P (finished n w)) → (c : Call A) → P (perform W n c w)
  unfolding perform refusal add_to finish_to
  call_ind w P x y z (Call.add a) = after_ind _ w (added W n w a) P x (λ e. y a (free W n w a e))
  call_ind w P x y z Call.finish = after_ind _ w (finished n w) P x (λ e. let f = finish-free n w e in z f.0 f.1)

  pub same_length_lem : (w : Writer) (c : Call A) → length (perform W n c w).bytes ≡ length w.bytes
  unfolding added finished
  same_length_lem w =
      call_ind w (λ u. length u.bytes ≡ length w.bytes) refl
      (λ a f. length-put_bits w.bytes w.bit _) (λ _ _. length-put_bits w.bytes w.bit _)

  pub run_holds : (cs : List (Call A)) (w : Writer) → IsBlock n w.bytes → IsBlock n (run W n cs w).bytes
  unfolding run
  run_holds [] w holds = holds
  run_holds (c ∷ cs) w holds = run_holds cs (perform W n c w) (record { limit = holds.limit; inside = rw (same_length_lem w c) holds.inside })

module _ {A H : Type 0} (C : Codec A H) (L : Laws C) (n : ℕ) where
  pub untouched : (w : Writer) (c : Call A) (j : ℕ) → (j < w.bit) ⊎ ((perform C.writer n c w).bit ≤ j)
      → bit_at (perform C.writer n c w).bytes j ≡ bit_at w.bytes j
  untouched w =
      call_ind C.writer n w (λ u. (j : ℕ) → (j < w.bit) ⊎ (u.bit ≤ j) → bit_at u.bytes j ≡ bit_at w.bytes j)
      (λ j _. refl) (add-outside C L n w) (finish-outside n w)

  -- no add fits behind a finish
  full : (w : Writer) (a : Add A) → w.bit ≡ n → Free C.writer n w a → ⊥
  full w a e f = omega (arith, room C L n w a f)

  call_finished : (w : Writer) → Finished n w → (c : Call A) → perform C.writer n c w ≡ w
  call_finished w f = call_ind C.writer n w (λ u. u ≡ w) refl (λ a x. absurd (full w a f.at x)) (λ _ _. finished-again n w f)

  pub run_finished : (cs : List (Call A)) (w : Writer) → Finished n w → run C.writer n cs w ≡ w
  unfolding run
  run_finished [] w f = refl
  run_finished (c ∷ cs) w f = ap (run C.writer n cs) (call_finished w f c) ∙ run_finished cs w f

  pub accepted_finished : (cs : List (Call A)) (w : Writer) → Finished n w → accepted C.writer n cs w ≡ []
  unfolding accepted
  accepted_finished [] w f = refl
  accepted_finished (Call.add a ∷ cs) w f = accepted_refused C.writer n a cs w (λ e. full w a f.at (free C.writer n w a e)) ∙ accepted_finished cs w f
  accepted_finished (Call.finish ∷ cs) w f = ap (accepted C.writer n cs) (call_finished w f Call.finish) ∙ accepted_finished cs w f

  pub after_finish_lem : (w : Writer) → IsBlock n w.bytes → good_bit n w.bit ≡ true
      → (cs : List (Call A)) → run C.writer n cs (finish_to n w) ≡ finish_to n w
  after_finish_lem w holds good cs = rw (finish_accepted n w holds (placed n w.bit good)) (run_finished cs (finished n w) (now_finished n w holds))

  none-fits : (a : A) (k : ℕ) → add_check C.writer a k ≡ 0 → n - n < total C.writer a k
  none-fits a k e =
      let c = check-free C.writer a k e in
      elim (dec_le (total C.writer a k) (n - n)) [
        | yes h ↦ absurd (omega (arith, enough C L a (n - n) (total C.writer a k) c.1 (omega arith) c.0 h))
        | no h ↦ omega arith
      ]

  pub add-after-finish : (v : List ℕ) → IsBlock n v → (a : A) (slice k : ℕ)
      → add_refusal C.writer (length v) n n a slice k ≡ first (unless (leb k (8 * slice)) 13 ∷ add_check C.writer a k ∷ 2 ∷ [])
  unfolding add_refusal refusal_of add_check first
  add-after-finish v holds a slice k =
      rw (good-block holds, good-bit (record { inside = le_refl n; octet = inl refl }))
      (first_third (unless (leb k (8 * slice)) 13) (add_check C.writer a k) (unless (leb (total C.writer a k) (n - n)) 2) 2
      (λ e. rw (lt-leb (total C.writer a k) (n - n) (none-fits a k e))))
