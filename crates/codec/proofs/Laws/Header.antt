-- The laws of specs/Header.antt.
use Rattle.std.specs.Prelude.{ℕ, ◌+◌, ◌-◌, ◌≤◌, ◌≡◌, List, ◌++◌, Bool, true, false, not, length, Result}
use Rattle.std.proofs.Math.Path.{sym, ap}
use Rattle.std.proofs.Common.{◌∙◌, length-drop, drop-drop}
use native.Mathlib.Omega.{arith}
use Rattle.std.proofs.Math.ListN.{drop}
use Rattle.std.proofs.Math.Seq.{drop_at}
use Rattle.std.proofs.lemmas.Bool.{not-true, not-false}
use Rattle.bits.specs.Bits.{bits_at, get_bits, bits_of_nat, val}
use Rattle.tetra_core.specs.BitBuffer.{good_window, remaining}
use Rattle.bits.proofs.Laws.Values.{bits_of_nat-val}
use Rattle.bits.proofs.Laws.Reads.{length_bits_at, bits_at_add, get_bits_lt}
use Rattle.tetra_core.specs.Laws.Windows.{Good}
use Rattle.tetra_core.specs.declared.bitbuffer.Cursor.{Cursor}
use Rattle.tetra_core.specs.declared.refusal.Refusal.{Refusal}
use Rattle.codec.specs.Reader.{got, field_at, Reader, parse}
use Rattle.codec.proofs.Laws.Reader.{inside}
use Rattle.codec.specs.Words.{parse_word}
use Rattle.codec.proofs.Laws.Words.{parse-word, field-alone}
use Rattle.codec.specs.Header.{within, Word}
use Rattle.codec.specs.declared.Ahead.{Ahead}
use Rattle.codec.specs.Ahead.{Reads, part_out}

-- ---- the bits of a good window

module _ (s : List ℕ) (c : Cursor) (g : Good (length s) c) where
  pub length-within : length (within s c) ≡ remaining c
  unfolding within
  length-within = length_bits_at s c.pos (remaining c) (omega (arith, g))

  pub length_left : (o : ℕ) → length (drop o (within s c)) ≡ remaining c - o
  length_left o = omega (arith, length-drop o (within s c), length-within)

  pub word-there : (o n : ℕ) → o + n ≤ remaining c → Word (within s c) o n (get_bits s (c.pos + o) n)
  unfolding within get_bits
  word-there o n h =
      let m = remaining c - (o + n) in
      let b = bits_at s (c.pos + o) n in
      let la = length_bits_at s c.pos o (omega (arith, g)) in
      let lb = length_bits_at s (c.pos + o) n (omega (arith, g)) in
      let e : remaining c ≡ o + (n + m) = omega arith in
      let whole : bits_at s c.pos (remaining c) ≡ bits_at s c.pos o ++ (b ++ bits_at s (c.pos + o + n) m) =
      ap (bits_at s c.pos) e ∙ rw (bits_at_add s c.pos o (n + m), bits_at_add s (c.pos + o) n m) in
      let first : drop o (bits_at s c.pos (remaining c)) ≡ b ++ bits_at s (c.pos + o + n) m =
      rw whole (drop_at (bits_at s c.pos o) _ o la) in
      let rest : drop (o + n) (bits_at s c.pos (remaining c)) ≡ bits_at s (c.pos + o + n) m =
      sym (drop-drop n o _) ∙ ap (drop n) first ∙ drop_at b _ n lb in
      let back : bits_of_nat n (val b) ≡ b = rw lb at (bits_of_nat-val b) in
      record { bits = rw (first, rest, back); small = get_bits_lt s (c.pos + o) n (omega (arith, g)) }

-- ---- a part of a header

-- a reader where a word was read: each field that lies in the word is a part of x
pub parsed_word : {A : Type 0} {h : List Bool} {o n x : ℕ} (p : Reader A) → Word h o n x → parse p (drop o h) o ≡ parse_word p x n 0 (drop (o + n) h) o
parsed_word {o = o} p e = rw e.bits (parse-word p _ _ 0 _ o)

-- a word that is one field
pub alone : {h : List Bool} {o n x : ℕ} → Word h o n x → field_at n (drop o h) o ≡ got x (drop (o + n) h) (o + n)
alone {h} {o} {n} {x} e = rw e.bits (field-alone n x (drop (o + n) h) o e.small)

-- what a part of a header is read as by a function
pub read : {A : Type 0} {p : Reader A} {h : List Bool} {o : ℕ} {x r : Result (Ahead × A) Refusal}
    → Reads p h o x → x ≡ r → parse p (drop o h) o ≡ part_out r h
read {A} {h = h} p e = sym p.means ∙ ap (λ (r : Result (Ahead × A) Refusal). part_out r h) e

-- ---- a public call, whose first line is `if !good_window(..)` with the answer t

pub bad-seen : (len : ℕ) (c : Cursor) {t : Bool} → t ≡ good_window len c → not t ≡ true → good_window len c ≡ false
bad-seen len c e n = sym e ∙ not-true _ n

pub good-seen : (len : ℕ) (c : Cursor) {t : Bool} → t ≡ good_window len c → not t ≡ false → good_window len c ≡ true
good-seen len c e n = sym e ∙ not-false _ n

-- a header that is read ends inside its window
pub ends : {A : Type 0} {v : A} {r : List Bool} {n : ℕ} (p : Reader A) (s : List ℕ) (c : Cursor) → Good (length s) c
    → parse p (within s c) 0 ≡ got v r n → c.pos + n ≤ c.end
ends p s c g e = let f = rw e at (inside p (within s c) 0) in omega (arith, g, f.1, length-within s c g)
