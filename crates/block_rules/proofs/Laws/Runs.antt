-- A writer's run: whatever stands behind the writer's bit, the walk gives the accepted adds and goes on there.
use Rattle.std.proofs.Math.Path.{◌≡◌, refl, ap}
use Rattle.std.proofs.Common.{sym, ◌∙◌, subst₂, arith, length-drop, take-append-drop, take-take, take_all}
use Rattle.std.proofs.Math.Logic.{inr}
use Rattle.std.proofs.Math.Bool.{Bool}
use Rattle.std.specs.Prelude.{true, ℕ, ◌+◌, ◌-◌, ◌≤◌, ltb, take, drop}
use mathlib.Core.List.{List, [], ◌∷◌, ◌++◌, map, append_assoc, append-nil}
use Rattle.std.proofs.Math.Decide.{ℕ_discrete}
use borrow.Author.Tests.{ltb-true, ltb-false}
use Rattle.std.proofs.Math.ListN.{length}
use Rattle.bits.specs.Bits.{splice}
use Rattle.bits.proofs.Laws.Splice.{length-splice, splice_at, splice-before}
use Rattle.codec.proofs.Laws.Ahead.{part-take}
use Rattle.block_rules.specs.Numbers.{least_bits}
use Rattle.block_rules.specs.declared.extent.Extent.{Extent}
use Rattle.block_rules.specs.Extent.{extent}
use Rattle.block_rules.specs.Codec.{HeaderReader, Codec, Laws}
use Rattle.block_rules.specs.Read.{Reading, read_own, read_pdu}
use Rattle.block_rules.specs.Walk.{Pdu, Entry, Walk, entries_then, go_on, walk}
use Rattle.block_rules.specs.Writer.{finish_bits, Writer, finished, Add, size_of, added_bits, added}
use Rattle.block_rules.specs.Run.{Call, Item, start, holds_finish, item_at, closing, as_pdu, as_entry, perform, refusal, run, accepted, finished_at, expected}
use Rattle.block_rules.specs.Demand3.{IsBlock}
use Rattle.block_rules.proofs.Laws.Lists.{cond_ind}
use Rattle.block_rules.proofs.Laws.Walks.{from, from_end, from_null, from-sized}
use Rattle.block_rules.proofs.Laws.Blocks.{block, length-block, walk_block, put-block}
use Rattle.block_rules.proofs.Laws.Refusals.{Placed, finish_accepted, Free, free}
use Rattle.block_rules.proofs.Laws.WrittenBack.{length_added, read_added, extent_added, length-finish, extent-finish}
use Rattle.block_rules.proofs.Laws.Calls.{refused_call, accepted_call, accepted_add, accepted_refused, added_place, holds-put, now_finished, run_finished, accepted_finished}

module _ {H : Type 0} (R : HeaderReader H) where
  -- the walk of any block with the first p bits of b gives es, and goes on at p
  unfoldable pub Gives : List Bool → ℕ → List (Entry H) → Type 0
  Gives b p es = (d : List Bool) → length d ≡ length b → take p d ≡ take p b → from R d 0 ≡ entries_then es (from R d p)

  gives_none : (b : List Bool) → Gives b 0 []
  unfolding Gives
  gives_none b d e f = refl

  then_append : (es fs : List (Entry H)) (w : Walk H) → entries_then es (entries_then fs w) ≡ entries_then (es ++ fs) w
  then_append es fs w = ap (λ l. record { entries = l; rest_at = w.rest_at }) (sym (append_assoc es fs w.entries))

  -- a PDU of s bits is put at p; whatever stands behind it, it ends there and reads as r
  gives_put : (b : List Bool) (p : ℕ) (xs : List Bool) (s : ℕ) (r : Reading H) → p + s ≤ length b → length xs ≡ s
      → ((t : List Bool) → length (xs ++ t) ≡ length b - p → extent (xs ++ t) ≡ Extent.Sized s) → read_own R xs ≡ r
      → (es : List (Entry H)) → Gives b p es → Gives (splice p xs b) (p + s) (es ++ (record { bit = p; pdu = Pdu.sized s r } ∷ []))
  unfolding Gives read_pdu go_on
  gives_put b p xs s r in_b len fr rd es g d ld td =
      g d same front ∙ ap (entries_then es) (from-sized R d p s (omega (arith, same)) ends ∙ ap (λ q. entries_then (entry q) (from R d (p + s))) read)
      ∙ then_append es (entry r) (from R d (p + s))
    where
      entry : Reading H → List (Entry H)
      entry q = record { bit = p; pdu = Pdu.sized s q } ∷ []

      same : length d ≡ length b
      same = ld ∙ length-splice p xs b (omega arith)

      front : take p d ≡ take p b
      front =
          sym (take-take p (p + s) d (omega arith)) ∙ ap (take p) td ∙ take-take p (p + s) (splice p xs b) (omega arith)
          ∙ splice-before p xs b (omega arith)

      pdu : take s (drop p d) ≡ xs
      pdu =
          sym (part-take p s (p + s) d (omega arith)) ∙ ap (λ l. take s (drop p l)) td ∙ part-take p s (p + s) (splice p xs b) (omega arith)
          ∙ rw (← len) (splice_at p xs b (omega arith))

      whole : drop p d ≡ xs ++ drop s (drop p d)
      whole = sym (take-append-drop s (drop p d)) ∙ ap (λ l. l ++ drop s (drop p d)) pdu

      ends : extent (drop p d) ≡ Extent.Sized s
      ends = rw whole (fr (drop s (drop p d)) (sym (ap length whole) ∙ length-drop p d ∙ ap (λ x. x - p) same))

      read : read_pdu R (drop p d) s ≡ r
      read = ap (read_own R) pdu ∙ rd

  -- ---- a finish

  closed : (n : ℕ) (b : List Bool) (p : ℕ) → length b ≡ n → p ≤ n → drop p b ≡ finish_bits (n - p) → from R b p ≡ closing n p
  unfolding closing go_on
  closed n b p len h e =
      cond_ind (λ w. from R b p ≡ w) (ltb (n - p) least_bits) _ _
      (λ t. from_end R b p (omega arith) (omega (arith, ltb-true (n - p) least_bits t)))
      (λ t. from_null R b p 2 (omega arith) (rw e (extent-finish (n - p) (ltb-false (n - p) least_bits t))))

  gives_finish : (n : ℕ) (b : List Bool) (p : ℕ) (es : List (Entry H)) → length b ≡ n → p ≤ n → Gives b p es
      → from R (splice p (finish_bits (n - p)) b) 0 ≡ entries_then es (closing n p)
  unfolding Gives
  gives_finish n b p es len h g =
      g (splice p xs b) same (splice-before p xs b (omega arith)) ∙ ap (entries_then es) (closed n (splice p xs b) p (same ∙ len) h tail)
    where
      xs : List Bool
      xs = finish_bits (n - p)

      same : length (splice p xs b) ≡ length b
      same = length-splice p xs b (omega (arith, length-finish (n - p)))

      tail : drop p (splice p xs b) ≡ xs
      tail =
          sym (take_all (length xs) (drop p (splice p xs b)) (omega (arith, length-drop p (splice p xs b), same, length-finish (n - p))))
          ∙ splice_at p xs b (omega arith)

  -- ---- the run

  -- after some calls: the block is held, the writer's bit is good, and the walk gives es up to it
  pub record State (n : ℕ) (w : Writer) (es : List (Entry H)) : Type 0 where
    pub holds : IsBlock n w.bytes
    pub at : Placed n w.bit
    pub gives : Gives (block n w.bytes) w.bit es

module _ {A H : Type 0} (C : Codec A H) (L : Laws C) (n : ℕ) where
  state_add : (w : Writer) (es : List (Entry H)) (a : Add A) → Free C.writer n w a → State C.reader n w es
      → State C.reader n (added C.writer n w a) (es ++ (as_entry C n (item_at w.bit a) ∷ []))
  unfolding added as_entry as_pdu
  state_add w es a f st =
      let xs : List Bool = added_bits C.writer (n - w.bit) a in
      let ls : length xs ≡ size_of C.writer (n - w.bit) a = length_added C L n w a f in
      let next : Placed n (w.bit + size_of C.writer (n - w.bit) a) = added_place C L n w a f in
      let lb : length (block n w.bytes) ≡ n = length-block st.holds in
      record {
        holds = holds-put st.holds w.bit xs;
        at = next;
        gives =
            rw (put-block st.holds w.bit xs (omega arith), f.given)
            (gives_put C.reader (block n w.bytes) w.bit xs (size_of C.writer (n - w.bit) a) _ (omega arith) ls
            (λ t e. extent_added C L n w a f t (e ∙ ap (λ x. x - w.bit) lb)) (read_added C L n w a f) es st.gives);
      }

  -- the claim, from any state on: the walk gives es, these items, and the closing
  abbrev Claim : List (Call A) → Writer → List (Entry H) → List (Item A) → Type 0
  Claim cs w es items = walk C.reader (run C.writer n cs w).bytes n ≡ entries_then (es ++ map (as_entry C n) items) (closing n (finished_at C.writer n cs w))

  abbrev Reads : List (Call A) → Writer → List (Entry H) → Type 0
  Reads cs w es = Claim cs w es (accepted C.writer n cs w)

  -- behind a finish nothing changes and nothing is accepted
  run_finish : (cs : List (Call A)) (w : Writer) → IsBlock n w.bytes → Placed n w.bit → run C.writer n (Call.finish ∷ cs) w ≡ finished n w
  unfolding run perform
  run_finish cs w holds at = ap (run C.writer n cs) (finish_accepted n w holds at) ∙ run_finished C L n cs (finished n w) (now_finished n w holds)

  accepted_finish : (cs : List (Call A)) (w : Writer) → IsBlock n w.bytes → Placed n w.bit → accepted C.writer n (Call.finish ∷ cs) w ≡ []
  unfolding accepted perform
  accepted_finish cs w holds at =
      ap (accepted C.writer n cs) (finish_accepted n w holds at) ∙ accepted_finished C L n cs (finished n w) (now_finished n w holds)

  walk_finish : (w : Writer) (es : List (Entry H)) → State C.reader n w es → walk C.reader (finished n w).bytes n ≡ entries_then es (closing n w.bit)
  unfolding walk finished
  walk_finish w es st =
      let xs : List Bool = finish_bits (n - w.bit) in
      walk_block (holds-put st.holds w.bit xs) C.reader 0
      ∙ rw (put-block st.holds w.bit xs (omega (arith, length-finish (n - w.bit), st.at.inside)))
      (gives_finish C.reader n (block n w.bytes) w.bit es (length-block st.holds) st.at.inside st.gives)

  reads-finish : (cs : List (Call A)) (w : Writer) (es : List (Entry H)) → State C.reader n w es → Reads (Call.finish ∷ cs) w es
  unfolding finished_at
  reads-finish cs w es st =
      rw (run_finish cs w st.holds st.at, accepted_finish cs w st.holds st.at, append-nil es) (walk_finish w es st)

  reads-add : (a : Add A) (cs : List (Call A)) (w : Writer) (es : List (Entry H)) → State C.reader n w es
      → ((u : Writer) (fs : List (Entry H)) → State C.reader n u fs → Reads cs u fs) → Reads (Call.add a ∷ cs) w es
  unfolding run finished_at
  reads-add a cs w es st ih = elim (ℕ_discrete (refusal C.writer n (Call.add a) w) 0) [ yes e ↦ taken e | no e ↦ turned e ]
    where
      entry : List (Entry H)
      entry = as_entry C n (item_at w.bit a) ∷ []

      taken : refusal C.writer n (Call.add a) w ≡ 0 → Reads (Call.add a ∷ cs) w es
      taken e =
          let r : Reads cs (added C.writer n w a) (es ++ entry) = ih (added C.writer n w a) (es ++ entry) (state_add w es a (free C.writer n w a e) st) in
          subst₂ (λ u xs. Claim cs u es xs) (sym (accepted_call C.writer n w a e)) (sym (accepted_add C.writer n a cs w e))
          (rw (append_assoc es entry (map (as_entry C n) (accepted C.writer n cs (added C.writer n w a)))) at r)

      turned : (refusal C.writer n (Call.add a) w ≡ 0 → ⊥) → Reads (Call.add a ∷ cs) w es
      turned e = subst₂ (λ u xs. Claim cs u es xs) (sym (refused_call C.writer n w (Call.add a) e)) (sym (accepted_refused C.writer n a cs w e)) (ih w es st)

  reads : (cs : List (Call A)) → holds_finish cs ≡ true → (w : Writer) (es : List (Entry H)) → State C.reader n w es → Reads cs w es
  unfolding holds_finish
  reads [] t w es st = let z : ◌≡◌ {A = ℕ} 0 1 = cc in absurd (omega arith)
  reads (Call.finish ∷ cs) t w es st = reads-finish cs w es st
  reads (Call.add a ∷ cs) t w es st = reads-add a cs w es st (reads cs t)

  -- the walk of what a run left
  pub run_reads : (v : List ℕ) → IsBlock n v → (cs : List (Call A)) → holds_finish cs ≡ true
      → walk C.reader (run C.writer n cs (start v)).bytes n ≡ expected C n cs v
  unfolding expected
  run_reads v holds cs t =
      reads cs t (start v) [] (record { holds = holds; at = record { inside = omega arith; octet = inr refl }; gives = gives_none C.reader (block n v) })
