-- The walk of a list of bits: how it goes on from a bit, with no count of steps, and what that gives.
use Rattle.std.specs.Prelude.{◌≡◌, Bool, List, [], ◌∷◌, length, drop}
use Rattle.std.proofs.Math.Path.{refl, sym}
use Rattle.std.proofs.Common.{ap, ◌∙◌, le_refl, arith, le-leb}
use Prim.Native.Nat.{ℕ, zero, suc, ◌+◌, ◌-◌, ◌≤◌, ◌<◌}
use Rattle.std.proofs.Math.Decide.{dec_le}
use Rattle.std.proofs.lemmas.Bool.{lt-leb}
use Rattle.std.proofs.Math.ListN.{length-drop}
use Rattle.tetra_core.specs.Refusal.{number}
use Rattle.tetra_core.specs.declared.refusal.Refusal.{Refusal}
use Rattle.block_rules.specs.Numbers.{least_bits}
use Rattle.block_rules.specs.declared.extent.Extent.{Extent}
use Rattle.block_rules.specs.Extent.{extent}
use Rattle.block_rules.specs.Codec.{HeaderReader}
use Rattle.block_rules.specs.Read.{Reading, read_pdu}
use Rattle.block_rules.specs.Walk.{Pdu, own_size, Step, step_of, pdu_of, first_pdu, step_at, Walk, ended, entries_then, go_on, follow, walk_by}
use Rattle.block_rules.specs.Demand3.{Covers}
use Rattle.block_rules.proofs.Laws.Extents.{Bounds, bounds, extent-short}

module _ {H : Type 0} (R : HeaderReader H) (b : List Bool) where
  -- a step, by its extent
  step_by : ℕ → Extent → Step H
  step_by p f = step_of p (pdu_of R (drop p b) f)

  step_in : (p : ℕ) → p ≤ length b → step_at R b p ≡ step_by p (extent (drop p b))
  unfolding step_at first_pdu step_by
  step_in p h = rw (le-leb p (length b) h)

  step_past : (p : ℕ) → length b < p → step_at R b p ≡ Step.refused 13 0
  unfolding step_at
  step_past p h = rw (lt-leb p (length b) h)

  -- ---- enough steps are as good as any other number that is enough

  -- two walks that agree from 16 bits on agree behind a PDU, read or refused
  go_on_same : (p : ℕ) (j k : ℕ → Walk H) → ((q : ℕ) → p + least_bits ≤ q → j q ≡ k q)
      → (x : Pdu H) → least_bits ≤ own_size least_bits x → go_on j p x ≡ go_on k p x
  unfolding go_on own_size
  go_on_same p j k e (Pdu.null l) h = refl
  go_on_same p j k e (Pdu.unsized n o) h = refl
  go_on_same p j k e (Pdu.sized s (Reading.read x m c f)) h = cc (e (p + s) (omega arith))
  go_on_same p j k e (Pdu.sized s (Reading.refused n o)) h = cc (e (p + s) (omega arith))

  -- an entry, and the walk behind it
  abbrev entry_then : (ℕ → Walk H) → ℕ → Pdu H → Walk H
  entry_then walk p x = entries_then (record { bit = p; pdu = x } ∷ []) (go_on walk p x)

  entry-same : (p : ℕ) (j k : ℕ → Walk H) → ((q : ℕ) → p + least_bits ≤ q → j q ≡ k q)
      → (x : Pdu H) → least_bits ≤ own_size least_bits x → entry_then j p x ≡ entry_then k p x
  entry-same p j k e x h = ap (entries_then (record { bit = p; pdu = x } ∷ [])) (go_on_same p j k e x h)

  follow_same : (p : ℕ) (j k : ℕ → Walk H) → ((q : ℕ) → p + least_bits ≤ q → j q ≡ k q)
      → (f : Extent) → Bounds (length (drop p b)) f → follow j p (step_by p f) ≡ follow k p (step_by p f)
  unfolding follow step_by step_of pdu_of own_size Bounds
  follow_same p j k e Extent.End h = refl
  follow_same p j k e (Extent.Unsized r) h = entry-same p j k e (Pdu.unsized (number r.reason) r.offset) (le_refl least_bits)
  follow_same p j k e (Extent.Null l) h = entry-same p j k e (Pdu.null l) (le_refl least_bits)
  follow_same p j k e (Extent.Sized s) h = entry-same p j k e (Pdu.sized s (read_pdu R (drop p b) s)) h.0

  step_same : (p : ℕ) (j k : ℕ → Walk H) → p ≤ length b → ((q : ℕ) → p + least_bits ≤ q → j q ≡ k q)
      → follow j p (step_at R b p) ≡ follow k p (step_at R b p)
  step_same p j k h e = rw (step_in p h) (follow_same p j k e (extent (drop p b)) (bounds (drop p b)))

  ended_past : (n p : ℕ) → length b < p → walk_by (step_at R b) n p ≡ ended p
  unfolding walk_by follow
  ended_past zero p h = refl
  ended_past (suc n) p h = rw (step_past p h)

  enough : (n m p : ℕ) → length b < n + p → length b < m + p → walk_by (step_at R b) n p ≡ walk_by (step_at R b) m p
  unfolding walk_by
  enough zero m p u v = sym (ended_past m p (omega arith))
  enough (suc n) zero p u v = ended_past (suc n) p (omega arith)
  enough (suc n) (suc m) p u v =
      elim (dec_le p (length b)) [
        | yes h ↦ step_same p (walk_by (step_at R b) n) (walk_by (step_at R b) m) h (λ q k. enough n m q (omega arith) (omega arith))
        | no h ↦ ended_past (suc n) p (omega arith) ∙ sym (ended_past (suc m) p (omega arith))
      ]

  -- the walk from bit p
  unfoldable pub from : ℕ → Walk H
  from p = walk_by (step_at R b) (suc (length b)) p

  pub from_step : (p : ℕ) → p ≤ length b → from p ≡ follow from p (step_at R b p)
  unfolding from walk_by
  from_step p h =
      step_same p (walk_by (step_at R b) (length b)) (walk_by (step_at R b) (suc (length b))) h
      (λ q k. enough (length b) (suc (length b)) q (omega arith) (omega arith))

  -- ---- the walk from a bit, by the extent there

  from_by : (p : ℕ) (f : Extent) → p ≤ length b → extent (drop p b) ≡ f → from p ≡ follow from p (step_by p f)
  from_by p f h e = from_step p h ∙ ap (follow from p) (step_in p h ∙ ap (step_by p) e)

  pub from_end : (p : ℕ) → p ≤ length b → length b < p + least_bits → from p ≡ ended p
  unfolding step_by step_of pdu_of follow
  from_end p h k = from_by p Extent.End h (extent-short (drop p b) (omega (arith, length-drop p b)))

  abbrev pub entry_at : ℕ → Pdu H → Walk H
  entry_at p x = entry_then from p x

  pub from-unsized : (p : ℕ) (r : Refusal) → p ≤ length b → extent (drop p b) ≡ Extent.Unsized r → from p ≡ entry_at p (Pdu.unsized (number r.reason) r.offset)
  unfolding step_by step_of pdu_of follow
  from-unsized p r h e = from_by p (Extent.Unsized r) h e

  pub from_null : (p l : ℕ) → p ≤ length b → extent (drop p b) ≡ Extent.Null l → from p ≡ entry_at p (Pdu.null l)
  unfolding step_by step_of pdu_of follow
  from_null p l h e = from_by p (Extent.Null l) h e

  pub from-sized : (p s : ℕ) → p ≤ length b → extent (drop p b) ≡ Extent.Sized s → from p ≡ entry_at p (Pdu.sized s (read_pdu R (drop p b) s))
  unfolding step_by step_of pdu_of follow
  from-sized p s h e = from_by p (Extent.Sized s) h e

  -- what holds of a walk's end, and at each PDU if it holds from 16 bits on, holds of the walk from every bit
  module _ (P : ℕ → Walk H → Type 0)
      (at-end : (p : ℕ) → p ≤ length b → length b < p + least_bits → P p (ended p))
      (at-unsized : (p : ℕ) (r : Refusal) → p + least_bits ≤ length b → extent (drop p b) ≡ Extent.Unsized r → P p (entry_at p (Pdu.unsized (number r.reason) r.offset)))
      (at_null : (p l : ℕ) → p + least_bits ≤ length b → extent (drop p b) ≡ Extent.Null l → P p (entry_at p (Pdu.null l)))
      (at-sized : (p s : ℕ) → least_bits ≤ s → p + s ≤ length b → extent (drop p b) ≡ Extent.Sized s
      → ((q : ℕ) → p + least_bits ≤ q → q ≤ length b → P q (from q)) → P p (entry_at p (Pdu.sized s (read_pdu R (drop p b) s)))) where
    by_extent : (p : ℕ) → p ≤ length b → (f : Extent) → extent (drop p b) ≡ f → Bounds (length b - p) f
        → ((q : ℕ) → p + least_bits ≤ q → q ≤ length b → P q (from q)) → P p (from p)
    unfolding Bounds
    by_extent p h Extent.End e k ih = rw (from_end p h (omega arith)) (at-end p h (omega arith))
    by_extent p h (Extent.Unsized r) e k ih = rw (from-unsized p r h e) (at-unsized p r (omega arith) e)
    by_extent p h (Extent.Null l) e k ih = rw (from_null p l h e) (at_null p l (omega arith) e)
    by_extent p h (Extent.Sized s) e k ih = rw (from-sized p s h e) (at-sized p s k.0 (omega (arith, k.1)) e ih)

    by_count : (n p : ℕ) → length b < n + p → p ≤ length b → P p (from p)
    by_count zero p u h = absurd (omega arith)
    by_count (suc n) p u h =
        by_extent p h (extent (drop p b)) refl (rw (length-drop p b) at (bounds (drop p b))) (λ q k l. by_count n q (omega arith) l)

    pub walk-ind : (p : ℕ) → p ≤ length b → P p (from p)
    walk-ind p h = by_count (suc (length b)) p (omega arith) h

  -- ---- the walk covers the block

  pub covered : (p : ℕ) → p ≤ length b → Covers (length b) p (from p).entries (from p).rest_at
  unfolding go_on
  covered =
      walk-ind (λ p w. Covers (length b) p w.entries w.rest_at)
      (λ p h k. Covers.end h k)
      (λ p r h e. Covers.unsized h)
      (λ p l h e. Covers.null h)
      (λ p s h k e ih. Covers.sized h (ih (p + s) (omega arith) k))
