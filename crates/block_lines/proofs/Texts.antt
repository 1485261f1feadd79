-- The text of a block, as a walk puts it: line by line.
use Rattle.std.specs.Prelude.{Result, Option, Ok, Err, Some, None}
use Rattle.std.specs.Result.{result_unwrap_or}
use Rattle.std.proofs.lemmas.Option.{none-some}
use mathlib.Core.Path.{◌≡◌, refl, sym, ap, ◌∙◌}
use mathlib.Core.Bool.{Bool, true, false}
use mathlib.Core.List.{List, [], ◌∷◌, ◌++◌, append_assoc, append-nil}
use Prim.Native.Nat.{ℕ, ◌+◌, ◌*◌, ◌≤◌}
use native.Mathlib.Omega.{arith}
use lib.ListN.{length, length-map}
use lib.Seq.{length-take-le}
use Rattle.text.specs.Counts.{IsPrefixLen}
use Rattle.text.specs.declared.Text.{Text}
use Rattle.text.specs.Put.{PutAt, Put, AtStart}
use Rattle.text.specs.Laws.Puts.{then, wider, reads, put_nothing, at-start, start-counts}
use Rattle.tetra_core.specs.declared.refusal.Refusal.{Refusal}
use Rattle.mac_block.specs.declared.reader.BlockEntry.{BlockEntry}
use Rattle.block_rules.specs.Walk.{good_block, step, follow, walk_by, walk_from, walk}
use Rattle.block_rules.specs.Downlink.{downlink_reader}
use Rattle.block_rules.proofs.Laws.Blocks.{held}
use Rattle.block_rules.proofs.Laws.Demand3Downlink.{demand_3_of_blocks}
use Rattle.block_walk.specs.declared.Position.{Position}
use Rattle.block_walk.specs.declared.WalkStep.{WalkStep}
use Rattle.block_walk.specs.Positions.{after, step_from, walk_on, rest_from}
use Rattle.block_walk.specs.Laws.Going.{same_rest}
use Rattle.block_lines.specs.Line.{entry_line, line_text, lines_from, rest_bits}
use Rattle.block_lines.specs.Listing.{lines_text, rest_text, block_text}
use Rattle.block_lines.specs.Most.{line_most, rest_most, entries_most, listing_most}
use Rattle.block_lines.proofs.Lines.{answer_line, lines_on}

-- an answer that is no entry
abbrev NoEntry : Result (Option BlockEntry) Refusal → Type 0
NoEntry a = (e : BlockEntry) → a ≡ Ok (Some e) → ⊥

-- the entry of an answer, or none
pub some_entry : (a : Result (Option BlockEntry) Refusal) (e : BlockEntry) → result_unwrap_or a None ≡ Some e → a ≡ Ok (Some e)
some_entry (Ok o) e h = ap Ok h
some_entry (Err r) e h = absurd (none-some e h)

pub no_entry : (a : Result (Option BlockEntry) Refusal) → ((e : BlockEntry) → result_unwrap_or a None ≡ Some e → ⊥) → NoEntry a
no_entry a k e q = k e (rw q)

module _ (v : List ℕ) (n : ℕ) where
  -- ---- how many lines there are

  counted : good_block n (length v) ≡ true → length (walk_from downlink_reader v n 0).entries ≤ entries_most
  unfolding walk
  counted good =
      let h = held n v good in
      let k = demand_3_of_blocks.walks.count n v h in
      omega (arith, k, h.limit)

  no_entries : good_block n (length v) ≡ false → (walk_from downlink_reader v n 0).entries ≡ []
  unfolding walk_from walk_by follow step
  no_entries bad = rw bad

  few-entries : (g : Bool) → good_block n (length v) ≡ g → length (walk_from downlink_reader v n 0).entries ≤ entries_most
  few-entries true good = counted good
  few-entries false bad = rw (no_entries bad) (omega arith)

  few-lines : length (lines_from v n (Position.At 0)) ≤ entries_most
  unfolding lines_from walk_on
  few-lines = rw length-map (few-entries (good_block n (length v)) refl)

  -- ---- the line of a step

  line-next : (x : Position) {w : WalkStep} {e : BlockEntry} → w ≡ step_from v n x → w.answer ≡ Ok (Some e)
      → lines_from v n x ≡ entry_line e ∷ lines_from v n w.position
  unfolding answer_line
  line-next x q a = rw q (let b = rw q at a in lines_on v n x ∙ rw b)

  -- an answer that is no entry is the walk's end
  ends_by : (p : ℕ) (a : Result (Option BlockEntry) Refusal) → NoEntry a → answer_line a ++ lines_from v n (after p a) ≡ []
  unfolding answer_line after lines_from walk_on
  ends_by p (Ok (Some e)) k = absurd (k e refl)
  ends_by p (Ok None) k = refl
  ends_by p (Err r) k = refl

  no_next : (x : Position) {w : WalkStep} → w ≡ step_from v n x → NoEntry w.answer → lines_from v n x ≡ []
  unfolding step_from lines_from walk_on
  no_next (Position.At p) q k = lines_on v n (Position.At p) ∙ ends_by p _ (rw q at k)
  no_next (Position.Ended q) e k = refl

  -- ---- the lines up to a position are put, and the others are to come

  pub record Written (d : Text) (x : Position) (e : Text) : Type 0 where
    pub text : List ℕ
    pub lines : ℕ
    pub put : Put (line_most * lines) d text e
    pub count : lines + length (lines_from v n x) ≤ entries_most
    pub whole : text ++ lines_text (lines_from v n x) ≡ lines_text (lines_from v n (Position.At 0))
    pub rest : rest_from v n x ≡ rest_bits v n

  pub nothing : (d : Text) → Written d (Position.At 0) d
  nothing d = record { text = []; lines = 0; put = put_nothing d; count = omega (arith, few-lines); whole = refl; rest = refl }

  pub turn : {d e f : Text} (x : Position) {w : WalkStep} {b : BlockEntry} → Written d x e → w ≡ step_from v n x
      → w.answer ≡ Ok (Some b) → Put line_most e (line_text (entry_line b)) f → Written d w.position f
  unfolding lines_text
  turn x {w} {b} k q a l =
      let next = line-next x q a in
      record {
        text = k.text ++ line_text (entry_line b);
        lines = k.lines + 1;
        put = wider (line_most * (k.lines + 1)) (omega arith) (then k.put l);
        count = omega (arith, k.count, ap length next);
        whole = append_assoc k.text (line_text (entry_line b)) _ ∙ (rw next at k.whole);
        rest = same_rest v n x q ∙ k.rest;
      }

  pub finish : {d e f : Text} {m : ℕ} (x : Position) {w : WalkStep} → Written d x e → w ≡ step_from v n x → NoEntry w.answer
      → m ≡ rest_from v n w.position → Put rest_most e (rest_text m) f → Put listing_most d (block_text v n) f
  unfolding lines_text
  finish x k q a m l =
      let e = no_next x q a in
      let t : k.text ≡ lines_text (lines_from v n (Position.At 0)) = sym (append-nil k.text) ∙ (rw e at k.whole) in
      wider listing_most (omega (arith, k.count)) (then (reads t k.put) (rw (m ∙ same_rest v n x q ∙ k.rest) at l))

-- a buffer of that many bytes suffices
pub listed : {d xs e : List ℕ} {r : ℕ} → length d ≡ listing_most → PutAt listing_most d 0 xs r e → AtStart d xs r e × IsPrefixLen r e
listed {e = e} {r = r} h a =
    let s = at-start (omega arith) a in
    let l = start-counts s in
    (s, (l, sym (length-take-le r e l)))
