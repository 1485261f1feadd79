-- Own bits alone: what an entry says of its PDU is what the PDU's bits say, with no other bit in sight.
use Rattle.std.specs.Prelude.{◌≡◌, Bool, ℕ, ◌+◌, ◌≤◌, take, drop, Option, Some, None}
use Rattle.std.proofs.Math.Path.{refl, ap}
use Rattle.std.proofs.Common.{◌∙◌, le_refl, arith, take-take}
use Rattle.std.proofs.Math.Bool.{true, false}
use mathlib.Core.List.{List, []}
use Rattle.std.proofs.Math.ListN.{length, length-drop}
use Rattle.std.proofs.Math.Seq.{take-length, length-take-le}
use Rattle.tetra_core.specs.Refusal.{number}
use Rattle.tetra_core.specs.declared.refusal.Refusal.{Refusal}
use Rattle.codec.specs.Reader.{Out}
use Rattle.block_rules.specs.Numbers.{least_bits}
use Rattle.block_rules.specs.declared.extent.Extent.{Extent}
use Rattle.block_rules.specs.Extent.{extent}
use Rattle.block_rules.specs.Codec.{HeaderReader, Inside}
use Rattle.block_rules.specs.Read.{Reading, before_last_one, behind_header, read_own, read_pdu}
use Rattle.block_rules.specs.Walk.{Pdu, Entry, own_size, size_in, pdu_of, first_pdu, go_on}
use Rattle.block_rules.proofs.Laws.Lists.{before_starts}
use Rattle.block_rules.proofs.Laws.Extents.{extent-null, extent-sized}
use Rattle.block_rules.proofs.Laws.Walks.{from, walk-ind}
use Rattle.block_rules.proofs.Laws.Covering.{Each, each_nil, each_cons}

-- the bits of a PDU of the block b
abbrev pub own_in : {H : Type 0} → List Bool → Entry H → List Bool
own_in b e = take (size_in (length b) e) (drop e.bit b)

module _ {H : Type 0} (R : HeaderReader H) where
  first_by : (bits : List Bool) (f : Extent) → extent bits ≡ f → first_pdu R bits ≡ pdu_of R bits f
  unfolding first_pdu
  first_by bits f e = ap (pdu_of R bits) e

  first-null : (bits : List Bool) (l : ℕ) → extent bits ≡ Extent.Null l → first_pdu R (take least_bits bits) ≡ Some (Pdu.null l)
  unfolding pdu_of
  first-null bits l e = first_by (take least_bits bits) (Extent.Null l) (extent-null bits l e)

  first-unsized : (bits : List Bool) (r : Refusal) → extent bits ≡ Extent.Unsized r → first_pdu R (take (length bits) bits) ≡ Some (Pdu.unsized (number r.reason) r.offset)
  unfolding pdu_of
  first-unsized bits r e = rw (take-length bits) (first_by bits (Extent.Unsized r) e)

  first-sized : (bits : List Bool) (s : ℕ) → extent bits ≡ Extent.Sized s → first_pdu R (take s bits) ≡ Some (Pdu.sized s (read_pdu R bits s))
  unfolding pdu_of read_pdu
  first-sized bits s e =
      first_by (take s bits) (Extent.Sized s) (extent-sized bits s e) ∙ ap (λ w. Some (Pdu.sized s (read_own R w))) (take-take s s bits (le_refl s))

  module _ (b : List Bool) where
    -- the PDU's bits alone give what the entry says
    unfoldable pub Alone : Entry H → Type 0
    Alone e = first_pdu R (own_in b e) ≡ Some e.pdu

    pub alone : (p : ℕ) → p ≤ length b → Each Alone (from R b p).entries
    unfolding Alone own_size go_on
    alone =
        walk-ind R b (λ p w. Each Alone w.entries)
        (λ p h k. each_nil Alone)
        (λ p r h e. each_cons Alone _ [] (rw (length-drop p b) at (first-unsized (drop p b) r e)) (each_nil Alone))
        (λ p l h e. each_cons Alone _ [] (first-null (drop p b) l e) (each_nil Alone))
        (λ p s h k e ih. each_cons Alone _ (from R b (p + s)).entries (first-sized (drop p b) s e) (ih (p + s) (omega arith) k))

-- ---- the parts of a PDU: header, content and fill, one behind the other

module _ {H : Type 0} where
  -- of s bits: the content begins behind the m bits of the header, and the fill behind the content
  unfoldable pub Parts : ℕ → List Bool → Reading H → Type 0
  Parts s bits (Reading.read h m c f) = (m + (length c + f) ≡ s) × (take (length c) (drop m bits) ≡ c)
  Parts s bits (Reading.refused j o) = Unit {0}

  unfoldable pub PartsOf : List Bool → Pdu H → Type 0
  PartsOf bits (Pdu.null l) = Unit {0}
  PartsOf bits (Pdu.sized s r) = Parts s bits r
  PartsOf bits (Pdu.unsized j o) = Unit {0}

  parts-behind : (bits : List Bool) (h : H) (m : ℕ) (f : Bool) → m ≤ length bits → Parts (length bits) bits (behind_header h m f (drop m bits))
  unfolding Parts behind_header
  parts-behind bits h m false k = (omega (arith, length-drop m bits), take-length (drop m bits))
  parts-behind bits h m true k = go (before_last_one (drop m bits)) refl
    where
      go : (o : Option (List Bool)) → before_last_one (drop m bits) ≡ o → Parts (length bits) bits (behind_header h m true (drop m bits))
      go (Some c) e = let x = before_starts (drop m bits) c e in rw (e, behind_header) (omega (arith, x.0, length-drop m bits), x.1)
      go None e = rw (e, behind_header) tt

  module _ (R : HeaderReader H) (inside : Inside R) where
    parts-read : (bits : List Bool) → Parts (length bits) bits (read_own R bits)
    parts-read bits = go (R.read_header bits) refl
      where
        go : (o : Out H) → R.read_header bits ≡ o → Parts (length bits) bits (read_own R bits)
        go (Out.got h rest m) e = unfold read_own in rw (e, read_own) (parts-behind bits h m (R.fill_flag h) (inside bits h rest m e))
        go (Out.refused j o) e = unfold read_own Parts in rw (e, read_own) tt

    pub parts_in : (b : List Bool) (p : ℕ) → p ≤ length b → Each (λ (e : Entry H). PartsOf (own_in b e) e.pdu) (from R b p).entries
    unfolding PartsOf own_size read_pdu go_on
    parts_in b =
        walk-ind R b (λ p w. Each P w.entries)
        (λ p h k. each_nil P)
        (λ p r h e. each_cons P _ [] tt (each_nil P))
        (λ p l h e. each_cons P _ [] tt (each_nil P))
        (λ p s h k e ih.
        let len : length (take s (drop p b)) ≡ s = length-take-le s (drop p b) (omega (arith, length-drop p b)) in
        each_cons P _ (from R b (p + s)).entries (rw len at (parts-read (take s (drop p b)))) (ih (p + s) (omega arith) k))
      where
        P : Entry H → Type 0
        P e = PartsOf (own_in b e) e.pdu
