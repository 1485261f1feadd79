-- The walk from a position on is what the step there gives, and the walk from the position after it.
use Rattle.std.specs.Prelude.{◌≡◌, Bool, true, false, List, [], ◌∷◌, ℕ, suc, ◌+◌, ◌-◌, ◌≤◌, ◌<◌, length, Result, Option, Ok, Some, None}
use Rattle.std.proofs.Math.Path.{refl}
use Rattle.std.proofs.Common.{sym, ap, ◌∙◌, arith}
use Rattle.std.proofs.Math.Decide.{dec_le}
use borrow.Author.Tests.{lt-leb}
use Rattle.bits.specs.Bits.{bits_at}
use Rattle.bits.proofs.Laws.Reads.{length_bits_at}
use Rattle.block_rules.specs.declared.extent.Extent.{Extent}
use Rattle.tetra_core.specs.declared.refusal.Refusal.{Refusal}
use Rattle.mac_block.specs.declared.reader.BlockEntry.{BlockEntry}
use Rattle.block_rules.specs.Numbers.{most_bits}
use Rattle.block_rules.specs.Extent.{extent}
use Rattle.block_rules.specs.Read.{Reading}
use Rattle.block_rules.specs.Walk.{good_block, Pdu, Entry, Step, Walk, step_of, pdu_of, step_at, step, entries_then, follow, go_on, walk_by, walk_from}
use Rattle.block_rules.specs.Downlink.{DownlinkHeader, downlink_reader}
use Rattle.mac_block.specs.Answers.{sized_entry, entry_of, step_answer}
use Rattle.block_rules.specs.Demand3.{IsBlock}
use Rattle.block_rules.proofs.Laws.Extents.{Bounds, bounds}
use Rattle.block_rules.proofs.Laws.Blocks.{held, length-block, step_there}
use Rattle.block_rules.proofs.Laws.Demand3Downlink.{demand_3_of_blocks}
use Rattle.block_walk.specs.declared.Position.{Position}
use Rattle.block_walk.specs.declared.WalkStep.{WalkStep}
use Rattle.block_walk.specs.Positions.{after_end, after_entry, after, step_from, walk_on, rest_from, NullFits}

-- the entry that a step gives
unfoldable pub given : Step DownlinkHeader → List (Entry DownlinkHeader)
given (Step.refused j o) = []
given Step.end = []
given (Step.entry e) = e ∷ []

-- a PDU that has an end is walked on from there, read or refused
after-sized : (p s : ℕ) (r : Reading DownlinkHeader) → after_entry (sized_entry p s r) ≡ Position.At (p + s)
unfolding after_entry after_end sized_entry
after-sized p s (Reading.read h m content fill) = refl
after-sized p s (Reading.refused j o) = refl

-- ---- a step is refused, or it is taken in a block at a bit of it

module _ (v : List ℕ) (n p : ℕ) where
  abbrev here : Step DownlinkHeader
  here = step downlink_reader v n p

  abbrev by : Extent → Step DownlinkHeader
  by f = step_of p (pdu_of downlink_reader (bits_at v p (n - p)) f)

  no_block : good_block n (length v) ≡ false → here ≡ Step.refused 13 0
  unfolding step
  no_block bad = rw bad

  past-block : good_block n (length v) ≡ true → n < p → here ≡ Step.refused 13 0
  unfolding step step_at
  past-block good h = rw (good, lt-leb p (length (bits_at v 0 n)) (omega (arith, length-block (held n v good))))

  -- what is so of a refused step, and of each step by its extent, is so of every step
  by_extent : (P : Step DownlinkHeader → Type 0) → (here ≡ Step.refused 13 0 → P (Step.refused 13 0))
      → (IsBlock n v → p ≤ n → (f : Extent) → Bounds (n - p) f → here ≡ by f → P (by f)) → P here
  by_extent P out inside = go (good_block n (length v)) refl
    where
      taken : IsBlock n v → p ≤ n → P here
      taken holds h =
          let e = step_there holds downlink_reader p h refl in
          let l : length (bits_at v p (n - p)) ≡ n - p = length_bits_at v p (n - p) (omega arith) in
          rw e (inside holds h (extent (bits_at v p (n - p))) (rw l at (bounds (bits_at v p (n - p)))) e)

      refused : here ≡ Step.refused 13 0 → P here
      refused e = rw e (out e)

      go : (g : Bool) → good_block n (length v) ≡ g → P here
      go true good =
          elim (dec_le p n) [
            | yes h ↦ taken (held n v good) h
            | no h ↦ refused (past-block good (omega arith))
          ]
      go false bad = refused (no_block bad)

  -- ---- the walk from a bit is its entry, and the walk from the position after it

  abbrev Goes : Step DownlinkHeader → Type 0
  Goes s = walk_from downlink_reader v n p ≡ entries_then (given s) (walk_on v n (after p (step_answer s)))

  first_step : walk_from downlink_reader v n p ≡ follow (walk_by (step downlink_reader v n) n) p here
  unfolding walk_from walk_by
  first_step = refl

  goes_refused : here ≡ Step.refused 13 0 → Goes (Step.refused 13 0)
  unfolding given after walk_on step_answer follow
  goes_refused e = first_step ∙ rw e

  goes_by : IsBlock n v → p ≤ n → (f : Extent) → Bounds (n - p) f → here ≡ by f → Goes (by f)
  unfolding given after after_entry after_end walk_on step_answer entry_of follow go_on step_of pdu_of
  goes_by holds h Extent.End b e = demand_3_of_blocks.walks.steps n v holds p h ∙ rw e
  goes_by holds h (Extent.Unsized r) b e = demand_3_of_blocks.walks.steps n v holds p h ∙ rw e
  goes_by holds h (Extent.Null l) b e = demand_3_of_blocks.walks.steps n v holds p h ∙ rw e
  goes_by holds h (Extent.Sized s) b e = demand_3_of_blocks.walks.steps n v holds p h ∙ rw (e, after-sized)

  pub goes : Goes here
  goes = by_extent Goes goes_refused goes_by

  -- ---- a step that goes on goes further, and stays in the block

  unfoldable Further : Position → Type 0
  Further (Position.At q) = (p < q) × (q ≤ n)
  Further (Position.Ended q) = Unit {0}

  abbrev Leads : Step DownlinkHeader → Type 0
  Leads s = Further (after p (step_answer s))

  leads_refused : here ≡ Step.refused 13 0 → Leads (Step.refused 13 0)
  unfolding Further after step_answer
  leads_refused e = tt

  leads_by : IsBlock n v → p ≤ n → (f : Extent) → Bounds (n - p) f → here ≡ by f → Leads (by f)
  unfolding Further after after_entry after_end step_answer entry_of step_of pdu_of Bounds
  leads_by holds h Extent.End b e = tt
  leads_by holds h (Extent.Unsized r) b e = tt
  leads_by holds h (Extent.Null l) b e = tt
  leads_by holds h (Extent.Sized s) b e = rw after-sized (omega (arith, b.0), omega (arith, b.1))

  leads : Leads here
  leads = by_extent Leads leads_refused leads_by

  -- ---- an entry begins in the block

  unfoldable Inside : Step DownlinkHeader → Type 0
  Inside (Step.refused j o) = Unit {0}
  Inside Step.end = Unit {0}
  Inside (Step.entry e) = e.bit ≤ most_bits

  inside-refused : here ≡ Step.refused 13 0 → Inside (Step.refused 13 0)
  unfolding Inside
  inside-refused e = tt

  inside_by : IsBlock n v → p ≤ n → (f : Extent) → Bounds (n - p) f → here ≡ by f → Inside (by f)
  unfolding Inside step_of pdu_of
  inside_by holds h Extent.End b e = tt
  inside_by holds h (Extent.Unsized r) b e = omega (arith, holds.limit)
  inside_by holds h (Extent.Null l) b e = omega (arith, holds.limit)
  inside_by holds h (Extent.Sized s) b e = omega (arith, holds.limit)

  inside : Inside here
  inside = by_extent Inside inside-refused inside_by

fits : (p : ℕ) (x : Pdu DownlinkHeader) → p ≤ most_bits → NullFits (entry_of p x)
unfolding NullFits entry_of sized_entry
fits p (Pdu.null l) h = h
fits p (Pdu.sized s (Reading.read k m content fill)) h = tt
fits p (Pdu.sized s (Reading.refused j o)) h = tt
fits p (Pdu.unsized j o) h = tt

fits-inside : (v : List ℕ) (n p : ℕ) (s : Step DownlinkHeader) (e : BlockEntry) → Inside v n p s → step_answer s ≡ Ok (Some e) → NullFits e
unfolding Inside step_answer
fits-inside v n p (Step.refused j o) e k z = absurd (let w : ◌≡◌ {A = ℕ} 0 1 = cc in omega arith)
fits-inside v n p Step.end e k z = absurd (let w : ◌≡◌ {A = ℕ} 0 1 = cc in omega arith)
fits-inside v n p (Step.entry x) e k z = let w : e ≡ entry_of x.bit x.pdu = cc in rw w (fits x.bit x.pdu k)

pub null-fits : (v : List ℕ) (n p : ℕ) {a : Result (Option BlockEntry) Refusal} {e : BlockEntry} → a ≡ step_answer (step downlink_reader v n p) → a ≡ Ok (Some e) → NullFits e
null-fits v n p {a} {e} y z = fits-inside v n p (step downlink_reader v n p) e (inside v n p) (sym y ∙ z)

-- ---- the same of every position

-- the entry that the step from a position gives
unfoldable pub given_from : (v : List ℕ) (n : ℕ) → Position → List (Entry DownlinkHeader)
given_from v n (Position.At p) = given (step downlink_reader v n p)
given_from v n (Position.Ended q) = []

-- "all steps from bit 0 to the end, each from the last one's PDU end"
pub walk_on_lem : (v : List ℕ) (n : ℕ) (x : Position) → walk_on v n x ≡ entries_then (given_from v n x) (walk_on v n (step_from v n x).position)
unfolding walk_on given_from step_from
walk_on_lem v n (Position.At p) = goes v n p
walk_on_lem v n (Position.Ended q) = refl

-- a step leaves the rest as it is
pub same_rest : (v : List ℕ) (n : ℕ) (x : Position) {w : WalkStep} → w ≡ step_from v n x → rest_from v n w.position ≡ rest_from v n x
unfolding rest_from
same_rest v n x e = rw e (ap (λ (w : Walk DownlinkHeader). n - w.rest_at) (sym (walk_on_lem v n x)))

-- the steps that a walk can still take, at most
unfoldable pub steps_left : (n : ℕ) → Position → ℕ
steps_left n (Position.At p) = suc (n - p)
steps_left n (Position.Ended q) = 0

fewer-after : (v : List ℕ) (n p : ℕ) (x : Position) → Further v n p x → steps_left n x < steps_left n (Position.At p)
unfolding Further steps_left
fewer-after v n p (Position.At q) h = omega arith
fewer-after v n p (Position.Ended q) h = omega arith

-- one fewer after each step of a walk that has not ended
pub fewer : (v : List ℕ) (n p : ℕ) {w : WalkStep} → w ≡ step_from v n (Position.At p) → steps_left n w.position < steps_left n (Position.At p)
unfolding step_from
fewer v n p e = rw e (fewer-after v n p _ (leads v n p))

-- so after each step that gives an entry
pub fewer-entry : (v : List ℕ) (n : ℕ) (x : Position) {w : WalkStep} {e : BlockEntry} → w ≡ step_from v n x → w.answer ≡ Ok (Some e)
    → steps_left n w.position < steps_left n x
unfolding step_from
fewer-entry v n (Position.At p) y z = fewer v n p y
fewer-entry v n (Position.Ended q) {w} {e} y z =
    let k : Ok None ≡ Ok (Some e) = sym (ap (λ (x : WalkStep). x.answer) y) ∙ z in
    absurd (let k' : ◌≡◌ {A = ℕ} 0 1 = cc in omega arith)
