-- A block of n bits in lent bytes: its walk is the walk of its bits, and bits put into the bytes are put into it.
use Rattle.std.specs.Prelude.{◌≡◌, refl, ◌⊎◌, Bool, true, false, ◌&&◌, List, ◌++◌, ℕ, suc, ◌+◌, ◌-◌, ◌*◌, ◌≤◌, ◌<◌, leb, get_or, take, drop}
use Rattle.std.proofs.Math.Path.{sym, ap, fun_ext}
use Rattle.std.proofs.Common.{◌∙◌, inl, inr, append_assoc, arith, take-append-drop, get_or-take, get_or-drop, drop-drop, drop_at, ext_get_or}
use Rattle.std.proofs.Math.Nat.{zero-add}
use borrow.Author.Tests.{le-leb, leb-true}
use Rattle.std.proofs.Math.ListN.{length}
use Rattle.std.proofs.lemmas.List.{take-append-le, drop-append-le}
use Rattle.std.proofs.Math.Seq.{take_at, length-take-le}
use Rattle.bits.specs.Bits.{bits_of, splice, bits_at, put_bits}
use Rattle.bits.proofs.Laws.Bytes.{length_bits_of}
use Rattle.bits.proofs.Laws.Splice.{length-splice, splice-before, splice-after}
use Rattle.bits.proofs.Laws.Reads.{length_bits_at, bits_at_add}
use Rattle.bits.proofs.Laws.Writes.{bits_of_put_bits}
use Rattle.codec.proofs.Laws.Ahead.{part-take}
use Rattle.block_rules.specs.Numbers.{most_bits}
use Rattle.block_rules.specs.declared.extent.Extent.{Extent}
use Rattle.block_rules.specs.Extent.{extent}
use Rattle.block_rules.specs.Codec.{HeaderReader}
use Rattle.block_rules.specs.Walk.{good_block, Entry, size_in, own_bits, step_of, pdu_of, first_pdu, step_at, step, walk_by, walk_from}
use Rattle.block_rules.specs.Altered.{bit_at}
use Rattle.block_rules.specs.Demand3.{IsBlock}
use Rattle.block_rules.proofs.Laws.Walks.{from}
use Rattle.block_rules.proofs.Laws.Own.{own_in}

-- the block's bits
abbrev pub block : ℕ → List ℕ → List Bool
block n v = bits_at v 0 n

pub both : (x y : Bool) → (x && y) ≡ true → (x ≡ true) × (y ≡ true)
both true y e = (refl, e)
both false y e = (e, cc)

pub held : (n : ℕ) (v : List ℕ) → good_block n (length v) ≡ true → IsBlock n v
unfolding good_block
held n v e = let x = both (leb n most_bits) (leb n (8 * length v)) e in
    record { limit = leb-true n most_bits x.0; inside = leb-true n (8 * length v) x.1 }

-- a part of a part of the bytes
pub part-part : (v : List ℕ) (p q o w : ℕ) → o + w ≤ q → take w (drop o (bits_at v p q)) ≡ bits_at v (p + o) w
unfolding bits_at
part-part v p q o w h = part-take o w q (drop p (bits_of v)) h ∙ ap (take w) (drop-drop o p (bits_of v))

-- the bits behind the first m of some
pub behind-part : (v : List ℕ) (p s m : ℕ) → p + s ≤ 8 * length v → m ≤ s → drop m (bits_at v p s) ≡ bits_at v (p + m) (s - m)
behind-part v p s m h k =
    let e : s ≡ m + (s - m) = omega arith in
    ap (λ i. drop m (bits_at v p i)) e ∙ rw (bits_at_add v p m (s - m)) (drop_at (bits_at v p m) _ m (length_bits_at v p m (omega arith)))

-- a bit of a part
pub bit-part : (v : List ℕ) (p q i : ℕ) → i < q → get_or (bits_at v p q) i false ≡ bit_at v (p + i)
unfolding bits_at
bit-part v p q i h = get_or-take q (drop p (bits_of v)) i false h ∙ get_or-drop p (bits_of v) i false

pub bit-block : (n : ℕ) (v : List ℕ) (i : ℕ) → i < n → get_or (block n v) i false ≡ bit_at v i
unfolding bits_at
bit-block n v i h = get_or-take n (bits_of v) i false h

-- bits that are the same one by one
pub same-part : (v v' : List ℕ) (p q : ℕ) → p + q ≤ 8 * length v → p + q ≤ 8 * length v'
    → ((i : ℕ) → p ≤ i → i < p + q → bit_at v' i ≡ bit_at v i) → bits_at v' p q ≡ bits_at v p q
same-part v v' p q h h' same =
    ext_get_or false (bits_at v' p q) (bits_at v p q) (length_bits_at v' p q h' ∙ sym (length_bits_at v p q h))
    (λ i k. let m : i < q = omega (arith, length_bits_at v' p q h') in
    bit-part v' p q i m ∙ same (p + i) (omega arith) (omega arith) ∙ sym (bit-part v p q i m))

module _ {n : ℕ} {v : List ℕ} (holds : IsBlock n v) where
  pub good-block : good_block n (length v) ≡ true
  unfolding good_block
  good-block = rw (le-leb n most_bits holds.limit, le-leb n (8 * length v) holds.inside)

  pub length-block : length (block n v) ≡ n
  length-block = length_bits_at v 0 n (omega arith)

  pub step_block : {H : Type 0} (R : HeaderReader H) (p : ℕ) → step R v n p ≡ step_at R (block n v) p
  unfolding step
  step_block R p = rw good-block

  pub walk_block : {H : Type 0} (R : HeaderReader H) (p : ℕ) → walk_from R v n p ≡ from R (block n v) p
  unfolding walk_from from
  walk_block R p = rw length-block (ap (λ f. walk_by f (suc n) p) (fun_ext (step_block R)))

  -- a step, by the extent there
  pub step_there : {H : Type 0} (R : HeaderReader H) (p : ℕ) {x : Extent} → p ≤ n → x ≡ extent (bits_at v p (n - p))
      → step R v n p ≡ step_of p (pdu_of R (bits_at v p (n - p)) x)
  unfolding step_at first_pdu
  step_there R p h e =
      rw (step_block R p, le-leb p (length (block n v)) (rw length-block h), behind-part v 0 n p (omega arith) h, zero-add, e)

  -- a part of the bytes inside the block
  pub part-block : (p m : ℕ) → p + m ≤ n → bits_at v p m ≡ take m (drop p (block n v))
  unfolding bits_at
  part-block p m h = sym (part-take p m n (bits_of v) h)

  pub own_block : {H : Type 0} (e : Entry H) → e.bit + size_in n e ≤ n → own_bits n v e ≡ own_in (block n v) e
  unfolding own_bits
  own_block e h = rw length-block (part-block e.bit (size_in n e) h)

-- ---- bits put at a place

splice_front : (p : ℕ) (xs front rest : List Bool) → p + length xs ≤ length front → splice p xs (front ++ rest) ≡ splice p xs front ++ rest
unfolding splice
splice_front p xs front rest h =
    rw (take-append-le p front rest (omega arith), drop-append-le (p + length xs) front rest h)
    (simp append_assoc)

-- a write inside the block is a write into its bits
pub put-block : {n : ℕ} {v : List ℕ} → IsBlock n v → (p : ℕ) (xs : List Bool) → p + length xs ≤ n
    → block n (put_bits v p xs) ≡ splice p xs (block n v)
put-block {n} {v} holds p xs h = unfold bits_at in
    (ap (take n) (bits_of_put_bits v p xs (omega arith) ∙ ap (splice p xs) (sym (take-append-drop n (bits_of v)))
    ∙ splice_front p xs (take n (bits_of v)) (drop n (bits_of v)) (omega (arith, long)))
    ∙ take_at (splice p xs (take n (bits_of v))) (drop n (bits_of v)) n (length-splice p xs (take n (bits_of v)) (omega (arith, long)) ∙ long))
  where
    long : length (take n (bits_of v)) ≡ n
    long = length-take-le n (bits_of v) (omega (arith, length_bits_of v))

-- and leaves every other bit of the bytes
pub put-outside : (v : List ℕ) (p : ℕ) (xs : List Bool) (i : ℕ) → p + length xs ≤ 8 * length v → (i < p) ⊎ (p + length xs ≤ i)
    → bit_at (put_bits v p xs) i ≡ bit_at v i
put-outside v p xs i h out = rw (bits_of_put_bits v p xs h) (go out)
  where
    bs : List Bool
    bs = bits_of v

    in-v : p ≤ length bs
    in-v = omega (arith, length_bits_of v)

    go : (i < p) ⊎ (p + length xs ≤ i) → get_or (splice p xs bs) i false ≡ get_or bs i false
    go (inl k) =
        sym (get_or-take p (splice p xs bs) i false k) ∙ ap (λ l. get_or l i false) (splice-before p xs bs in-v) ∙ get_or-take p bs i false k
    go (inr k) =
        let q : ℕ = p + length xs in
        let e : i ≡ q + (i - q) = omega arith in
        rw e (sym (get_or-drop q (splice p xs bs) (i - q) false) ∙ ap (λ l. get_or l (i - q) false) (splice-after p xs bs in-v) ∙ get_or-drop q bs (i - q) false)
