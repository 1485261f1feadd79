-- The ends of a call.
use Rattle.std.specs.Prelude.{ℕ, min, ◌≤◌, ◌<◌, ◌≡◌, List, Bool, true, false, not, ◌&&◌, length, leb, Option, Some, None}
use Rattle.std.proofs.Math.Path.{refl}
use Rattle.std.proofs.Common.{sym, ap, ◌∙◌, arith}
use borrow.Author.Tests.{leb-true, le-leb, lt-leb, not-true, not-false}
use Rattle.tetra_core.specs.Laws.Windows.{and_both}
use Rattle.tetra_core.specs.declared.bitbuffer.Moved.{Moved}
use Rattle.tetra_mac.specs.Reply.{Reply, malformed, replied, wrote, with_bytes, moved_reply, read_reply, write_reply, record_reply, value_if}

-- a number that is not too large is kept
pub kept : (n m : ℕ) → n ≤ m → min n m ≡ n
kept n m h = omega arith

-- a value whose words are known
pub value_known : {A : Type 0} {known : Bool} {v x : A} → (known ≡ true) × (v ≡ x) → value_if known v ≡ Some x
unfolding value_if
value_known h = rw (h.0, h.1)

-- a record that is known is long enough
pub long-enough : (n : ℕ) (ws : List ℕ) (codes : Bool) → leb n (length ws) && codes ≡ true → n ≤ length ws
long-enough n ws codes e = leb-true n (length ws) (and_both (leb n (length ws)) codes e).0

-- the returns of a call that reads
module _ {B : Type 0} (reply : List ℕ → ℕ → B → Reply) (n at : ℕ) (a : B) (out : List ℕ) where
  pub read_no_room : length out < n → replied malformed out ≡ read_reply reply n at a out
  unfolding read_reply
  read_no_room h = rw (lt-leb n (length out) h)

  pub read-replied : n ≤ length out → {b : B} → a ≡ b → {r : Reply} → r ≡ reply out at b → r ≡ read_reply reply n at a out
  unfolding read_reply
  read-replied h e r = rw (le-leb n (length out) h, e) r

-- the returns of a call that writes
module _ {A : Type 0} (write : A → Moved) (written : A → List ℕ) (s out : List ℕ) where
  pub write_no_room : (v : Option A) → length out < 1 → wrote malformed out s ≡ write_reply write written s v out
  unfolding write_reply
  write_no_room None h = refl
  write_no_room (Some v) h = rw (lt-leb 1 (length out) h)

  pub write_replied : 1 ≤ length out → {v : A} {n : ℕ} {after bytes : List ℕ} {m : Moved}
      → (m ≡ write v) × (bytes ≡ written v) → replied n after ≡ moved_reply out m → wrote n after bytes ≡ write_reply write written s (Some v) out
  unfolding write_reply
  write_replied l {bytes = b} d r = rw (le-leb 1 (length out) l, ← d.0, ← d.1) (ap (λ (y : Reply). with_bytes y b) r)

  -- of a record, which is known where t is true
  module _ (v : A) {known t : Bool} (e : t ≡ known) where
    pub record_unknown : not t ≡ true → wrote malformed out s ≡ write_reply write written s (value_if known v) out
    unfolding write_reply value_if
    record_unknown h = rw (sym e ∙ not-true t h)

    pub record_replied : not t ≡ false → 1 ≤ length out → {x : A} {n : ℕ} {after bytes : List ℕ} {m : Moved}
        → x ≡ v → (m ≡ write x) × (bytes ≡ written x) → replied n after ≡ moved_reply out m → wrote n after bytes ≡ write_reply write written s (value_if known v) out
    unfolding value_if
    record_replied h l q d r = rw (sym e ∙ not-false t h, ← q) (write_replied l d r)

-- the returns of a call that counts a record's bits
module _ {A : Type 0} (reply : A → Reply) (n : ℕ) (out : List ℕ) where
  pub count_no_room : (v : Option A) → length out < n → replied malformed out ≡ record_reply reply n v out
  unfolding record_reply
  count_no_room None h = refl
  count_no_room (Some v) h = rw (lt-leb n (length out) h)

  module _ (v : A) {known t : Bool} (e : t ≡ known) where
    pub count_unknown : not t ≡ true → replied malformed out ≡ record_reply reply n (value_if known v) out
    unfolding record_reply value_if
    count_unknown h = rw (sym e ∙ not-true t h)

    pub count-replied : not t ≡ false → n ≤ length out → {x : A} {r : Reply} → x ≡ v → r ≡ reply x → r ≡ record_reply reply n (value_if known v) out
    unfolding record_reply value_if
    count-replied h l q r = rw (sym e ∙ not-false t h, le-leb n (length out) l, ← q) r
