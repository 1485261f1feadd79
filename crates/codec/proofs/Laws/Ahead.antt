-- The laws of specs/Ahead.antt.
use Rattle.std.specs.Prelude.{ℕ, zero, suc, ◌+◌, ◌-◌, ◌/◌, ◌%◌, ◌^◌, ◌≤◌, ◌<◌, ◌≡◌, refl, List, [], ◌∷◌, ◌++◌, Bool, length, take, drop, Result, Ok, Err, IfOk, IfErr}
use Rattle.std.proofs.Common.{sym, ap, ◌∙◌, append_assoc, arith, add_assoc, add-zero, mod-lt, length-append, length-take, length-drop, take-append-drop, length-take-le, take-take, drop-drop, take_at, drop_at, pow_pos, shr_lt}
use Rattle.std.proofs.Math.Nat.{mod-mod}
use Rattle.std.proofs.Math.Pow.{mod-mod-pow}
use Rattle.bits.specs.Bits.{bits_of_nat, Leading}
use Rattle.bits.proofs.Laws.Values.{length-bits_of_nat, bits_of_nat-add, bits_of_nat-mod, bits-zero}
use Rattle.codec.specs.Reader.{Out, refused, next, field_at, Reader, parse}
use Rattle.codec.proofs.Laws.Reader.{field-short, inside}
use Rattle.codec.specs.Words.{Starts, short_at, total}
use Rattle.codec.proofs.Laws.Words.{short}
use Rattle.tetra_core.specs.BitBuffer.{remaining}
use Rattle.tetra_core.specs.Laws.Windows.{Good}
use Rattle.tetra_core.specs.declared.bitbuffer.Cursor.{Cursor}
use Rattle.codec.specs.Header.{Word, within}
use Rattle.codec.proofs.Laws.Header.{read, ends, word-there, length_left}
use Rattle.codec.specs.declared.Ahead.{Ahead}
use Rattle.codec.specs.Ahead.{next_bits, Held, ReadsNext, Ready, Onward, advanced, ending_in, Reads, part_out}
use Rattle.tetra_core.specs.Refusal.{number}
use Rattle.tetra_core.specs.declared.refusal.Refusal.{Refusal}
use Rattle.std.proofs.lemmas.Result.{IfOk-at_ok}

-- the first and the last bits of a word
word-front : {h : List Bool} {o v : ℕ} (m n : ℕ) → Word h o (m + n) v → (drop o h ≡ bits_of_nat m (v / 2 ^ n) ++ drop (o + m) h) × (drop (o + m) h ≡ bits_of_nat n v ++ drop (o + m + n) h)
word-front {h} {o} {v} m n w =
    let e : drop o h ≡ bits_of_nat m (v / 2 ^ n) ++ (bits_of_nat n v ++ drop (o + m + n) h) =
    w.bits ∙ rw (bits_of_nat-add m n v, append_assoc, add_assoc o m n) in
    let f : drop (o + m) h ≡ bits_of_nat n v ++ drop (o + m + n) h =
    sym (drop-drop m o h) ∙ ap (drop m) e ∙ drop_at (bits_of_nat m (v / 2 ^ n)) _ m (length-bits_of_nat m _) in
    (e ∙ ap (λ (l : List Bool). bits_of_nat m (v / 2 ^ n) ++ l) (sym f), f)

pub word_head : {h : List Bool} {o v : ℕ} (m n : ℕ) → Word h o (m + n) v → Word h o m (v / 2 ^ n)
word_head m n w = record { bits = (word-front m n w).0; small = shr_lt m n w.small }

pub word_tail : {h : List Bool} {o v : ℕ} (m n : ℕ) → Word h o (m + n) v → Word h (o + m) n (v % 2 ^ n)
word_tail {v = v} m n w =
    record { bits = rw (← bits_of_nat-mod n v (v % 2 ^ n) (sym (mod-mod v (2 ^ n)))) (word-front m n w).1; small = mod-lt v (pow_pos n) }

-- a part of the first s bits is a part of all
pub part-take : (o w s : ℕ) (bits : List Bool) → o + w ≤ s → take w (drop o (take s bits)) ≡ take w (drop o bits)
part-take zero w s bits h = take-take w s bits (omega arith)
part-take (suc o) w zero bits h = absurd (omega arith)
part-take (suc o) w (suc s) [] h = refl
part-take (suc o) w (suc s) (x ∷ bits) h = part-take o w s bits (omega arith)

-- the bits of a word
pub word-bits : {h : List Bool} {o n v : ℕ} → Word h o n v → take n (drop o h) ≡ bits_of_nat n v
word-bits {n = n} {v} w = ap (take n) w.bits ∙ take_at (bits_of_nat n v) _ n (length-bits_of_nat n v)

-- a word that ends in the first s bits is a word of them
word-take : {h : List Bool} {o n v : ℕ} (s : ℕ) → Word h o n v → o + n ≤ s → Word (take s h) o n v
word-take {h} {o} {n} s w l =
    record { bits = sym (take-append-drop n (drop o (take s h))) ∙ rw (part-take o n s h l ∙ word-bits w, drop-drop n o (take s h)); small = w.small }

-- a word of the bytes' bits from the offset on, whatever follows those of the header in it
pub held_ahead : (s : List ℕ) (c : Cursor) (o left : ℕ) {x : ℕ} → Good (length s) c → left ≡ remaining c - o → 1 ≤ left → Leading s (c.pos + o) x
    → Held (within s c) (record { at = o; left = left; word = x; used = 0 })
held_ahead s c o left {x} g l m w = record { bits = l ∙ sym (length_left s c g o); part = go }
  where
    go : (n : ℕ) → n ≤ left → 0 + n ≤ 64 → Word (within s c) o n (x / 2 ^ (64 - 0 - n) % 2 ^ n)
    go n i j = rw (w n (omega arith) (omega (arith, l, g))) (word-there s c g o n (omega (arith, l)))

-- n bits on
pub held_on : {h : List Bool} {a : Ahead} (m : ℕ) → Held h a → m ≤ a.left → Held h (advanced a m)
held_on {h} {a} m e l = record { bits = omega (arith, e.bits, length-drop a.at h, length-drop (a.at + m) h); part = go }
  where
    go : (n : ℕ) → n ≤ a.left - m → a.used + m + n ≤ 64 → Word h (a.at + m) n (a.word / 2 ^ (64 - (a.used + m) - n) % 2 ^ n)
    go n i j =
        let s : 64 - (a.used + m) - n ≡ 64 - a.used - (m + n) = omega arith in
        let w = word_tail m n (e.part (m + n) (omega arith) (omega arith)) in
        rw (s, ← mod-mod-pow (a.word / 2 ^ (64 - a.used - (m + n))) m n) w

pub ready_on : {a : Ahead} {k : ℕ} (m n : ℕ) → Ready a k → m + n ≤ k → m ≤ a.left → Ready (advanced a m) n
ready_on m n r i l = record { room = omega (arith, r); small = omega (arith, r) }

-- the same of a header that ends m bits from there
pub held_cut : {h : List Bool} {a : Ahead} (m : ℕ) → Held h a → m ≤ a.left → Held (take (a.at + m) h) (ending_in a m)
held_cut {h} {a} m e l = record {
  bits = omega (arith, e.bits, length-drop a.at h, length-drop a.at (take (a.at + m) h), length-take (a.at + m) h);
  part = λ n i j. word-take (a.at + m) (e.part n (omega arith) j) (omega arith);
}

pub ready-cut : {a : Ahead} {k : ℕ} (m : ℕ) → Ready a k → m ≤ a.left → Ready (ending_in a m) k
ready-cut m r l = record { room = r.room; small = omega (arith, r) }

pub ready_less : {a : Ahead} {k : ℕ} (n : ℕ) → Ready a k → n ≤ k → Ready a n
ready_less n r l = record { room = omega (arith, r); small = r.small }

-- some bits on, and none; one part behind another
pub onward : {a : Ahead} (m n : ℕ) → m ≤ n → m ≤ a.left → Onward a n (advanced a m)
onward m n i l = record { held = λ h e. held_on m e l; ready = λ k r. ready_on m k r (omega arith) l }

pub onward-none : {a : Ahead} (n : ℕ) → Onward a n a
onward-none n = record { held = λ h e. e; ready = λ k r. ready_less k r (omega arith) }

pub onward_then : {a b d : Ahead} {m n : ℕ} (k : ℕ) → Onward a m b → Onward b n d → m + n ≤ k → Onward a k d
onward_then {m = m} {n} k x y l = record {
  held = λ h e. y.held h (x.held h e);
  ready = λ j r. y.ready j (x.ready (n + j) (ready_less (m + (n + j)) r (omega arith)));
}

-- what the function of a part that is ahead at the offset o answered, as the part's outcome
pub next-read : {A : Type 0} {p : Reader A} {h : List Bool} {a : Ahead} {n o : ℕ} {x r : Result (Ahead × A) Refusal}
    → ReadsNext p a n x → Held h a → a.at ≡ o → x ≡ r → parse p (drop o h) o ≡ part_out r h
next-read {p = p} {h} f e z g = ap (λ (o : ℕ). parse p (drop o h) o) (sym z) ∙ read (f.of h e) g

-- a part that was read goes on with what follows it, and one that is refused ends there
pub next-part : {A B : Type 0} (x : Result (Ahead × A) Refusal) (h : List Bool) (k : A → List Bool → ℕ → Out B)
    → IfOk x (λ y. next (part_out x h) k ≡ k y.1 (drop y.0.at h) y.0.at) × IfErr x (λ r. next (part_out x h) k ≡ refused (number r.reason) r.offset)
next-part (Ok y) h k = (refl, tt)
next-part (Err r) h k = (tt, refl)

-- a header that was read ends inside its window
pub read-ends : {A : Type 0} {p : Reader A} {o : ℕ} {x : Result (Ahead × A) Refusal} {v : A} {b : Ahead} (s : List ℕ) (c : Cursor) → Good (length s) c
    → Reads p (within s c) o x → o ≡ 0 → x ≡ Ok (b, v) → c.pos + b.at ≤ c.end
read-ends {p = p} s c g f z e = ends p s c g (rw z at (read f e))

-- what is ahead is so of some header
record Somewhere (a : Ahead) : Type 0 where
  header : List Bool
  held : Held header a

somewhere : (a : Ahead) → Somewhere a
somewhere a = record { header = all; held = record { bits = sym (ap length behind ∙ length-take-le a.left (word ++ more) enough); part = go } }
  where
    word : List Bool
    word = bits_of_nat (64 - a.used) a.word

    more : List Bool
    more = bits_of_nat a.left 0

    all : List Bool
    all = bits_of_nat a.at 0 ++ take a.left (word ++ more)

    behind : drop a.at all ≡ take a.left (word ++ more)
    behind = drop_at (bits_of_nat a.at 0) _ a.at (length-bits_of_nat a.at 0)

    enough : a.left ≤ length (word ++ more)
    enough = omega (arith, length-append word more, length-bits_of_nat a.left 0)

    go : (n : ℕ) → n ≤ a.left → a.used + n ≤ 64 → Word all a.at n (next_bits a n)
    go n i j =
        let m = 64 - a.used - n in
        let x = a.word / 2 ^ m in
        let d : 64 - a.used ≡ n + m = omega arith in
        let e : word ++ more ≡ bits_of_nat n x ++ (bits_of_nat m a.word ++ more) =
        ap (λ (k : ℕ). bits_of_nat k a.word ++ more) d ∙ rw (bits_of_nat-add n m a.word, append_assoc) in
        let f : take n (drop a.at all) ≡ bits_of_nat n x =
        rw (behind, take-take n a.left (word ++ more) i, e, take_at (bits_of_nat n x) _ n (length-bits_of_nat n x)) in
        record {
          bits = sym (take-append-drop n (drop a.at all)) ∙ rw (f, drop-drop n a.at all, bits_of_nat-mod n x (x % 2 ^ n) (sym (mod-mod x (2 ^ n))));
          small = mod-lt x (pow_pos n);
        }

-- so what was read of it was there, with no header at hand
pub read-there : {A : Type 0} {p : Reader A} {a b : Ahead} {x : Result (Ahead × A) Refusal} {v : A} (n : ℕ) → ReadsNext p a n x
    → x ≡ Ok (b, v) → (a.at ≤ b.at) × (b.at ≤ a.at + a.left)
read-there {p = p} {a} n f e =
    let s = somewhere a in
    let i = rw (read (f.of s.header s.held) e) at (inside p (drop a.at s.header) a.at) in
    (i.0, omega (arith, s.held.bits, i.1))

-- where a part was read, what is ahead after it
pub on-from : {A : Type 0} {p : Reader A} {a b : Ahead} {n : ℕ} {x : Result (Ahead × A) Refusal} {v : A} → ReadsNext p a n x → x ≡ Ok (b, v) → Onward a n b
on-from {a = a} {n = n} f e = IfOk-at_ok (λ x. Onward a n x.0) e f.onward

-- too few bits are left for the fields that a reader starts with, and for one field
pub ahead_short : {A : Type 0} {h : List Bool} {a : Ahead} (p : Reader A) (ws : List ℕ) → Starts ws p → Held h a → a.left < total ws
    → parse p (drop a.at h) a.at ≡ refused 1 (a.at + short_at ws a.left)
ahead_short {h = h} {a} p ws b e l = rw (← e.bits) at (short p ws (drop a.at h) a.at b (omega (arith, e.bits)))

pub ahead_field-short : {h : List Bool} {a : Ahead} (w : ℕ) → Held h a → a.left < w → field_at w (drop a.at h) a.at ≡ refused 1 a.at
ahead_field-short {h} {a} w e l = field-short w (drop a.at h) a.at (omega (arith, e.bits))

-- nothing is left
pub held_none : {h : List Bool} (o left : ℕ) → left ≡ length (drop o h) → left < 1 → Held h (record { at = o; left = left; word = 0; used = 0 })
held_none {h} o left e l = record { bits = e; part = go }
  where
    go : (n : ℕ) → n ≤ left → 0 + n ≤ 64 → Word h o n (0 / 2 ^ (64 - 0 - n) % 2 ^ n)
    go n i j = let z : n ≡ 0 = omega arith in rw z (record { bits = rw (bits-zero, add-zero); small = omega arith })
