-- Windows: what a good one gives, what is known where a call is not refused, and the forms of an answer.
use Rattle.std.specs.Prelude.{ℕ, zero, suc, ◌+◌, ◌-◌, ◌*◌, ◌^◌, ◌≤◌, ◌<◌, ◌≡◌, refl, List, [], ◌∷◌, Bool, true, false, ◌&&◌, length, leb, ltb, Err, None, Ok, Option, Some}
use Rattle.std.proofs.Common.{sym, arith, leb-true, ltb-true, le-leb}
use Rattle.std.proofs.lemmas.Bool.{lt-leb}
use Rattle.bits.specs.Bits.{get_bits, bits_of_nat}
use Rattle.tetra_core.specs.Refusal.{number, numbered, unless, first, first-none, passed}
use Rattle.tetra_core.specs.Quantity.{octets_of}
use Rattle.tetra_core.specs.BitBuffer.{room_refusal, good_window, at, moved, after, bytes_after, reads, read_refused, moves, changed, peek_at, peek_place, seek_place, read_refusal, read_bits, write_refusal, written, outcome, copy_refusal, remaining, into_slice_refusal, window_len, bitvec_refusal, are_bits, from_bitarr_refusal}
use Rattle.bits.proofs.Laws.Writes.{length-put_bits, get_bits-put_bits}
use Rattle.tetra_core.specs.declared.bitbuffer.Cursor.{Cursor}
use Rattle.tetra_core.specs.declared.bitbuffer.Copied.{Copied}
use Rattle.tetra_core.specs.declared.refusal.Reason.{Reason}
use Rattle.tetra_core.specs.declared.refusal.Reason.TheVariants.{ReadPastEnd, BadWindow}

-- ---- a good window

pub record Good (len : ℕ) (c : Cursor) : Type 0 where
  pub begins : c.start ≤ c.pos
  pub ends : c.pos ≤ c.end
  pub small : c.end ≤ 65536
  pub inside : c.end ≤ 8 * len

pub and_both : (a b : Bool) → a && b ≡ true → (a ≡ true) × (b ≡ true)
and_both true true e = (refl, refl)
and_both true false e = (refl, e)
and_both false true e = (e, refl)
and_both false false e = (e, e)

pub good_facts : (len : ℕ) (c : Cursor) → good_window len c ≡ true → Good len c
unfolding good_window
good_facts len c e =
    let p = and_both (leb c.start c.pos) _ e in
    let q = and_both (leb c.pos c.end) _ p.1 in
    let r = and_both (leb c.end 65536) _ q.1 in
    record {
      begins = leb-true _ _ p.0;
      ends = leb-true _ _ q.0;
      small = leb-true _ _ r.0;
      inside = leb-true _ _ r.1;
    }

pub good_test : (len : ℕ) (c : Cursor) → Good len c → good_window len c ≡ true
unfolding good_window
good_test len c g = simp (le-leb _ _ g.begins, le-leb _ _ g.ends, le-leb _ _ g.small, le-leb _ _ g.inside)

-- a window of which one part is not good is not
pub bad_test : (len : ℕ) (c : Cursor) → (Good len c → ⊥) → good_window len c ≡ false
bad_test len c h = cases (good_window len c) refl
  where
    cases : (b : Bool) → good_window len c ≡ b → good_window len c ≡ false
    cases true e = absurd (h (good_facts len c e))
    cases false e = e

-- ---- a read and a write that nothing refuses

pub record Readable (len : ℕ) (c : Cursor) (p n : ℕ) : Type 0 where
  pub good : Good len c
  pub narrow : n ≤ 64
  pub after : c.start ≤ p
  pub room : p + n ≤ c.end

pub readable : (len : ℕ) (c : Cursor) (p n : ℕ) → read_refusal len c p n ≡ 0 → Readable len c p n
unfolding read_refusal
readable len c p n e =
    let w = first-none (unless (good_window len c) 13) _ e in
    let x = first-none (unless (leb n 64) 1) _ w.1 in
    let y = first-none (unless (leb c.start p) 1) _ x.1 in
    let z = first-none (unless (leb (p + n) c.end) 1) _ y.1 in
    record {
      good = good_facts len c (passed _ 12 w.0);
      narrow = leb-true _ _ (passed _ 0 x.0);
      after = leb-true _ _ (passed _ 0 y.0);
      room = leb-true _ _ (passed _ 0 z.0);
    }

pub read-free : (len : ℕ) (c : Cursor) (p n : ℕ) → Readable len c p n → read_refusal len c p n ≡ 0
unfolding read_refusal first
read-free len c p n r = simp (good_test len c r.good, le-leb _ _ r.narrow, le-leb _ _ r.after, le-leb _ _ r.room)

pub record Writable (len : ℕ) (c : Cursor) (v n : ℕ) : Type 0 where
  pub good : Good len c
  pub narrow : n ≤ 64
  pub holds : v < 2 ^ n
  pub room : n ≤ c.end - c.pos

pub writable : (len : ℕ) (c : Cursor) (v n : ℕ) → write_refusal len c v n ≡ 0 → Writable len c v n
unfolding write_refusal
writable len c v n e =
    let w = first-none (unless (good_window len c) 13) _ e in
    let x = first-none (unless (leb n 64) 2) _ w.1 in
    let y = first-none (unless (ltb v (2 ^ n)) 3) _ x.1 in
    let z = first-none (unless (leb n (c.end - c.pos)) 2) _ y.1 in
    record {
      good = good_facts len c (passed _ 12 w.0);
      narrow = leb-true _ _ (passed _ 1 x.0);
      holds = ltb-true _ _ (passed _ 2 y.0);
      room = leb-true _ _ (passed _ 1 z.0);
    }

-- n bits that a window has from its cursor on
pub record Roomy (len : ℕ) (c : Cursor) (n : ℕ) : Type 0 where
  pub good : Good len c
  pub room : n ≤ remaining c

pub roomy : (j len : ℕ) (c : Cursor) (n : ℕ) → room_refusal (suc j) len c n ≡ 0 → Roomy len c n
unfolding room_refusal
roomy j len c n e =
    let w = first-none (unless (good_window len c) 13) _ e in
    let x = first-none (unless (leb n (remaining c)) (suc j)) _ w.1 in
    record { good = good_facts len c (passed _ 12 w.0); room = leb-true _ _ (passed _ j x.0) }

-- a window whose bits fit k bytes
pub record Takeable (len : ℕ) (c : Cursor) (k : ℕ) : Type 0 where
  pub good : Good len c
  pub room : window_len c ≤ k

pub takeable : (len : ℕ) (c : Cursor) (k : ℕ) → bitvec_refusal len c k ≡ 0 → Takeable len c k
unfolding bitvec_refusal
takeable len c k e =
    let w = first-none (unless (good_window len c) 13) _ e in
    let x = first-none (unless (leb (window_len c) k) 2) _ w.1 in
    record { good = good_facts len c (passed _ 12 w.0); room = leb-true _ _ (passed _ 1 x.0) }

pub record Copyable (tLen : ℕ) (d : Cursor) (sLen : ℕ) (c : Cursor) (n : ℕ) : Type 0 where
  pub to : Good tLen d
  pub from : Good sLen c
  pub there : n ≤ c.end - c.pos
  pub room : n ≤ d.end - d.pos

pub copyable : (tLen : ℕ) (d : Cursor) (sLen : ℕ) (c : Cursor) (n : ℕ) → copy_refusal tLen d sLen c n ≡ 0 → Copyable tLen d sLen c n
unfolding copy_refusal
copyable tLen d sLen c n e =
    let w = first-none (unless (good_window tLen d) 13) _ e in
    let x = first-none (unless (good_window sLen c) 13) _ w.1 in
    let y = first-none (unless (leb n (c.end - c.pos)) 1) _ x.1 in
    let z = first-none (unless (leb n (d.end - d.pos)) 2) _ y.1 in
    record {
      to = good_facts tLen d (passed _ 12 w.0);
      from = good_facts sLen c (passed _ 12 x.0);
      there = leb-true _ _ (passed _ 0 y.0);
      room = leb-true _ _ (passed _ 1 z.0);
    }

-- n bits that are read into k bytes
pub record Sliceable (len : ℕ) (c : Cursor) (n k : ℕ) : Type 0 where
  pub good : Good len c
  pub there : n ≤ remaining c
  pub room : octets_of n ≤ k

pub sliceable : (len : ℕ) (c : Cursor) (n k : ℕ) → into_slice_refusal len c n k ≡ 0 → Sliceable len c n k
unfolding into_slice_refusal
sliceable len c n k e =
    let w = first-none (unless (good_window len c) 13) _ e in
    let x = first-none (unless (leb n (remaining c)) 1) _ w.1 in
    let y = first-none (unless (leb (octets_of n) k) 2) _ x.1 in
    record {
      good = good_facts len c (passed _ 12 w.0);
      there = leb-true _ _ (passed _ 0 x.0);
      room = leb-true _ _ (passed _ 1 y.0);
    }

-- bytes that are written as bits
pub record Gatherable (len : ℕ) (c : Cursor) (buf : List ℕ) : Type 0 where
  pub good : Good len c
  pub bits : are_bits buf ≡ true
  pub room : length buf ≤ remaining c

pub gatherable : (len : ℕ) (c : Cursor) (buf : List ℕ) → from_bitarr_refusal len c buf ≡ 0 → Gatherable len c buf
unfolding from_bitarr_refusal
gatherable len c buf e =
    let w = first-none (unless (good_window len c) 13) _ e in
    let x = first-none (unless (are_bits buf) 3) _ w.1 in
    let y = first-none (unless (leb (length buf) (remaining c)) 2) _ x.1 in
    record {
      good = good_facts len c (passed _ 12 w.0);
      bits = passed _ 2 x.0;
      room = leb-true _ _ (passed _ 1 y.0);
    }

-- ---- the forms of an answer: refused for the reason r, or done

pub read-refused : (r : Reason) (j v : ℕ) (c d : Cursor) → number r ≡ j → read_refused c r ≡ reads j v c d
read-refused r zero v c d e = absurd ((numbered r).some e)
read-refused r (suc j) v c d e = rw (← e, (numbered r).back)

pub read_done : (j v : ℕ) (c d : Cursor) → j ≡ 0 → record { cursor = d; answer = Ok v } ≡ reads j v c d
read_done zero v c d e = refl
read_done (suc j) v c d e = absurd (omega arith)

pub move_refused : (r : Reason) (j : ℕ) (c d : Cursor) → number r ≡ j → record { cursor = c; answer = Err r } ≡ moves j c d
move_refused r zero c d e = absurd ((numbered r).some e)
move_refused r (suc j) c d e = rw (← e, (numbered r).back)

pub move_done : (j : ℕ) (c d : Cursor) → j ≡ 0 → record { cursor = d; answer = (Ok tt) } ≡ moves j c d
move_done zero c d e = refl
move_done (suc j) c d e = absurd (omega arith)

pub copy_refused : (r : Reason) (j : ℕ) (d d' c c' : Cursor) → number r ≡ j
    → ◌≡◌ {A = Copied} (record { cursor = d; source = c; answer = Err r })
    (record { cursor = after j d d'; source = after j c c'; answer = outcome j })
copy_refused r zero d d' c c' e = absurd ((numbered r).some e)
copy_refused r (suc j) d d' c c' e = rw (← e, (numbered r).back)

pub copy_done : (j : ℕ) (d d' c c' : Cursor) → j ≡ 0
    → ◌≡◌ {A = Copied} (record { cursor = d'; source = c'; answer = (Ok tt) })
    (record { cursor = after j d d'; source = after j c c'; answer = outcome j })
copy_done zero d d' c c' e = refl
copy_done (suc j) d d' c c' e = absurd (omega arith)

pub bytes-refused : (r j : ℕ) (s t : List ℕ) → r ≡ j → (r ≡ 0 → ⊥) → s ≡ bytes_after j s t
bytes-refused r zero s t e h = absurd (h e)
bytes-refused r (suc j) s t e h = refl

-- the same by a reason
pub bytes-stay : (r : Reason) (j : ℕ) (s t : List ℕ) → number r ≡ j → s ≡ bytes_after j s t
bytes-stay r j s t e = bytes-refused (number r) j s t e (numbered r).some

pub bytes-done : (j : ℕ) (s t : List ℕ) → j ≡ 0 → t ≡ bytes_after j s t
bytes-done zero s t e = refl
bytes-done (suc j) s t e = absurd (omega arith)

-- a window that is not good, or would not be, is left
pub changed-bad : (len : ℕ) (c d : Cursor) → (Good len c → Good len d → ⊥) → changed len c d ≡ moves 13 c c
unfolding changed
changed-bad len c d h = rw (both (good_window len c) (good_window len d) refl refl)
  where
    both : (x y : Bool) → good_window len c ≡ x → good_window len d ≡ y → good_window len c && good_window len d ≡ false
    both true true e f = absurd (h (good_facts len c e) (good_facts len d f))
    both true false e f = rw (e, f)
    both false y e f = rw e

pub seek_bad : (len : ℕ) (c : Cursor) (q : Option ℕ) → (Good len c → ⊥) → moves 13 c c ≡ seek_place len c q
seek_bad len c (Some p) h = sym (changed-bad len c (at c p) (λ g d. h g))
seek_bad len c None h = refl

-- a peek through a window that is not good, at any place
pub peek_bad : (s : List ℕ) (c : Cursor) (n : ℕ) (q : Option ℕ) → good_window (length s) c ≡ false → read_refused c BadWindow ≡ peek_place s c q n
unfolding peek_at read_refusal first
peek_bad s c n (Some p) e = rw e
peek_bad s c n None e = rw e

-- a peek past the window's end
pub peek_past : (s : List ℕ) (c : Cursor) (p n : ℕ) → Good (length s) c → c.end < p → read_refused c ReadPastEnd ≡ peek_at s c p n
unfolding peek_at read_refusal first
peek_past s c p n g h = past (leb n 64)
  where
    past : (b : Bool) → read_refused c ReadPastEnd ≡ reads (first (unless (good_window (length s) c) 13 ∷ unless b 1 ∷ unless (leb c.start p) 1 ∷ unless (leb (p + n) c.end) 1 ∷ [])) (get_bits s p n) c c
    past true = rw (good_test (length s) c g, le-leb c.start p (omega (arith, g)), lt-leb (p + n) c.end (omega arith))
    past false = rw (good_test (length s) c g)

-- ---- what was written is read back

pub read_back : (s : List ℕ) (c : Cursor) (v n : ℕ) → write_refusal (length s) c v n ≡ 0
    → read_bits (written s c v n) c n ≡ record { cursor = moved c n; answer = Ok v }
unfolding read_bits written
read_back s c v n e =
    let r = writable (length s) c v n e in
    let g = r.good in
    rw (
      e,
      length-put_bits s c.pos (bits_of_nat n v),
      read-free (length s) c c.pos n (record { good = g; narrow = r.narrow; after = g.begins; room = omega arith }),
      get_bits-put_bits s c.pos n v (omega arith) r.holds,
    )
