-- What is known where nothing refuses a call of the writer.
use Rattle.std.specs.Prelude.{◌≡◌, refl, ◌⊎◌, Bool, true, false, ◌||◌, List, ℕ, ◌+◌, ◌-◌, ◌*◌, ◌%◌, ◌≤◌, leb, eqb, length}
use Rattle.std.proofs.Common.{inl, inr, arith}
use borrow.Author.Tests.{le-leb, leb-true, eq-eqb, eqb-true, eqb-false}
use Rattle.tetra_core.specs.Refusal.{first, first-none, passed}
use Rattle.bits.proofs.Laws.Reads.{length_bits_at}
use Rattle.block_rules.specs.Numbers.{most_bits}
use Rattle.block_rules.specs.Codec.{HeaderWriter}
use Rattle.block_rules.specs.Walk.{good_block}
use Rattle.block_rules.specs.Writer.{good_bit, Writer, after, finish_refusal, finished, finish_to, Add, content_of, total, total_of, check_of, refusal_of, add_check, add_refusal}
use Rattle.block_rules.specs.Run.{Call, refusal}
use Rattle.block_rules.specs.Demand3.{IsBlock}
use Rattle.block_rules.proofs.Laws.Blocks.{both, held, good-block}

-- ---- the writer's bit

-- it is N, or before N and on an octet
pub record Placed (n p : ℕ) : Type 0 where
  pub inside : p ≤ n
  pub octet : (p ≡ n) ⊎ (p % 8 ≡ 0)

either : (x y : Bool) → (x || y) ≡ true → (x ≡ true) ⊎ (y ≡ true)
either true y e = inl refl
either false y e = inr e

on_octet : (n p : ℕ) → (eqb p n ≡ true) ⊎ (eqb (p % 8) 0 ≡ true) → (p ≡ n) ⊎ (p % 8 ≡ 0)
on_octet n p (inl e) = inl (eqb-true p n e)
on_octet n p (inr e) = inr (eqb-true (p % 8) 0 e)

pub placed : (n p : ℕ) → good_bit n p ≡ true → Placed n p
unfolding good_bit
placed n p e =
    let x = both (leb p n) (eqb p n || eqb (p % 8) 0) e in
    record { inside = leb-true p n x.0; octet = on_octet n p (either (eqb p n) (eqb (p % 8) 0) x.1) }

good-octet : (n p : ℕ) → (p ≡ n) ⊎ (p % 8 ≡ 0) → (x : Bool) → eqb p n ≡ x → (x || eqb (p % 8) 0) ≡ true
good-octet n p h true e = refl
good-octet n p (inl k) false e = absurd (omega (arith, eqb-false p n e))
good-octet n p (inr k) false e = eq-eqb (p % 8) 0 k

pub good-bit : {n p : ℕ} → Placed n p → good_bit n p ≡ true
unfolding good_bit
good-bit {n} {p} at = rw (le-leb p n at.inside) (good-octet n p at.octet (eqb p n) refl)

-- ---- a finish

pub finish_tests : (bytes n p : ℕ) → finish_refusal bytes n p ≡ 0 → (good_block n bytes ≡ true) × (good_bit n p ≡ true)
unfolding finish_refusal
finish_tests bytes n p e = let a = first-none _ _ e in (passed _ 12 a.0, passed _ 12 (first-none _ _ a.1).0)

pub finish-free : (n : ℕ) (w : Writer) → finish_refusal (length w.bytes) n w.bit ≡ 0 → IsBlock n w.bytes × Placed n w.bit
finish-free n w e = let t = finish_tests _ _ _ e in (held n w.bytes t.0, placed n w.bit t.1)

pub finish_accepted : (n : ℕ) (w : Writer) → IsBlock n w.bytes → Placed n w.bit → finish_to n w ≡ finished n w
unfolding finish_to finish_refusal first after
finish_accepted n w holds at = rw (good-block holds, good-bit at)

-- ---- an add

-- what is known where nothing refuses a header of m bits, which j refuses or 0, with k bits of content
pub check-none : (m j k : ℕ) → check_of m j k ≡ 0 → (m + k ≤ most_bits) × (j ≡ 0)
unfolding check_of
check-none m j k e =
    let a = first-none _ _ e in
    (leb-true (m + k) most_bits (passed _ 7 a.0), (first-none _ _ a.1).0)

module _ (m j k : ℕ) where
  -- in a block v of n bits at the bit p, the content in a slice
  pub record Roomy (v : List ℕ) (n p slice : ℕ) : Type 0 where
    pub holds : IsBlock n v
    pub at : Placed n p
    pub there : k ≤ 8 * slice
    pub small : m + k ≤ most_bits
    pub fine : j ≡ 0
    pub fits : m + k ≤ n - p

  pub roomy : (v : List ℕ) (n p slice : ℕ) → refusal_of (length v) n p m j slice k ≡ 0 → Roomy v n p slice
  unfolding refusal_of
  roomy v n p slice e =
      let x1 = first-none _ _ e in
      let x2 = first-none _ _ x1.1 in
      let x3 = first-none _ _ x2.1 in
      let x4 = first-none _ _ x3.1 in
      let x5 = first-none _ _ x4.1 in
      let x6 = check-none m j k x4.0 in
      record {
        holds = held n v (passed _ 12 x1.0);
        at = placed n p (passed _ 12 x2.0);
        there = leb-true k (8 * slice) (passed _ 12 x3.0);
        small = x6.0;
        fine = x6.1;
        fits = leb-true _ _ (passed _ 1 x5.0);
      }

module _ {A : Type 0} (W : HeaderWriter A) where
  pub check-free : (a : A) (k : ℕ) → add_check W a k ≡ 0 → (total W a k ≤ most_bits) × (W.check a ≡ 0)
  unfolding add_check
  check-free a k e = check-none (W.header_len a) (W.check a) k e

  pub record Free (n : ℕ) (w : Writer) (a : Add A) : Type 0 where
    pub holds : IsBlock n w.bytes
    pub at : Placed n w.bit
    pub there : a.bits ≤ 8 * length a.content
    pub given : length (content_of a) ≡ a.bits
    pub small : total_of W a ≤ most_bits
    pub fine : W.check a.header ≡ 0
    pub fits : total_of W a ≤ n - w.bit

  pub free : (n : ℕ) (w : Writer) (a : Add A) → refusal W n (Call.add a) w ≡ 0 → Free n w a
  unfolding refusal add_refusal
  free n w a e =
      let r = roomy (W.header_len a.header) (W.check a.header) a.bits w.bytes n w.bit (length a.content) e in
      record {
        holds = r.holds;
        at = r.at;
        there = r.there;
        given = length_bits_at a.content 0 a.bits (omega (arith, r.there));
        small = r.small;
        fine = r.fine;
        fits = r.fits;
      }
