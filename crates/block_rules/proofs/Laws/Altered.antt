-- Altered PDUs of a block in lent bytes.
use Rattle.std.proofs.lemmas.Option.{same_Some}
use Rattle.std.specs.Prelude.{◌≡◌, refl, Bool, true, false, List, ℕ, ◌+◌, ◌*◌, ◌≤◌, ◌<◌, eqb, drop, Option, Some, None, slice_get}
use Rattle.std.proofs.Math.Path.{sym, ap}
use Rattle.std.proofs.Common.{◌∙◌, subst, eqb-true}
use Rattle.std.proofs.Math.Logic.{inl, inr}
use native.Mathlib.Omega.{arith}
use Rattle.std.proofs.Math.Decide.{dec_lt}
use Rattle.std.proofs.lemmas.Bool.{eqb-false}
use Rattle.std.proofs.Math.ListN.{length, get_or}
use Rattle.std.proofs.lemmas.List.{length-map}
use Rattle.bits.specs.Bits.{put_bits}
use Rattle.bits.proofs.Laws.Writes.{bits_at_put_bits}
use Rattle.block_rules.specs.Numbers.{least_bits}
use Rattle.block_rules.specs.Extent.{Spared}
use Rattle.block_rules.specs.Codec.{HeaderReader}
use Rattle.block_rules.specs.Walk.{Entry, place, size_in, own_bits, walk}
use Rattle.block_rules.specs.Altered.{IsPdu, SparedIn, Altered, AlteredOne}
use Rattle.block_rules.specs.Demand3.{IsBlock, Isolated}
use Rattle.block_rules.proofs.Laws.Extents.{spared-near, spared_own}
use Rattle.block_rules.proofs.Laws.Covering.{none-same, Lies, lies, apart}
use Rattle.block_rules.proofs.Laws.Own.{own_in}
use Rattle.block_rules.proofs.Laws.Isolation.{KeptAt, Alike, alike}
use Rattle.block_rules.proofs.Laws.Blocks.{block, put-outside, bit-part, bit-block, same-part, length-block, own_block}
use Rattle.block_rules.proofs.Laws.Held.{walk_is, covers, own_is}

module _ {H : Type 0} (R : HeaderReader H) where
  module _ (n : ℕ) (v v' : List ℕ) (holds : IsBlock n v) (holds' : IsBlock n v') where
    -- spared bits of the bytes are spared bits of the block
    spared-kept : (k : ℕ) (e : Entry H) → IsPdu R n v k e → SparedIn n v v' e → KeptAt (block n v) (block n v') e.bit
    unfolding KeptAt
    spared-kept k e x s i sp =
        let l : Lies n 0 e = lies n (covers R n v holds) k e x in
        let near : i < least_bits = spared-near (drop e.bit (block n v)) i sp in
        let sp' : Spared (own_in (block n v) e) i =
        spared_own (size_in (length (block n v)) e) (drop e.bit (block n v)) i (rw (length-block holds) l.long) sp in
        bit-block n v' (e.bit + i) (omega arith) ∙ s i (subst (λ w. Spared w i) (sym (own_is R n v holds k e x)) sp')
        ∙ sym (bit-block n v (e.bit + i) (omega arith))

    -- a PDU that has its bits has its spared bits
    own_spared : (k : ℕ) (e : Entry H) → IsPdu R n v k e → own_bits n v' e ≡ own_bits n v e → SparedIn n v v' e
    unfolding own_bits
    own_spared k e x same i sp =
        let l : Lies n 0 e = lies n (covers R n v holds) k e x in
        let near : i < least_bits = spared-near (own_bits n v e) i sp in
        sym (bit-part v' e.bit (size_in n e) i (omega arith)) ∙ ap (λ w. get_or w i false) same
        ∙ bit-part v e.bit (size_in n e) i (omega arith)

    module _ (altered : ℕ → Bool) (a : Altered R n v v' altered) where
      kept : (k : ℕ) (e : Entry H) → IsPdu R n v k e → (t : Bool) → altered k ≡ t → KeptAt (block n v) (block n v') e.bit
      kept k e x true t = spared-kept k e x (a.spared k e x t)
      kept k e x false t = spared-kept k e x (own_spared k e x (a.others k e x t))

      walks-alike : Alike (block n v) (block n v') (walk R v n) (walk R v' n)
      walks-alike =
          rw (walk_is R n v holds, walk_is R n v' holds')
          (alike R (block n v) (block n v') (length-block holds' ∙ sym (length-block holds)) 0 (omega arith)
          (λ k e x. kept k e (rw (walk_is R n v holds) x) (altered k) refl))

      same_count : length (walk R v' n).entries ≡ length (walk R v n).entries
      same_count = sym (length-map (walk R v' n).entries place) ∙ ap length walks-alike.places ∙ length-map (walk R v n).entries place

      other : (k : ℕ) → altered k ≡ false → (o : Option (Entry H)) → slice_get (walk R v n).entries k ≡ o
          → slice_get (walk R v' n).entries k ≡ o
      other k t None x = none-same (walk R v n).entries (walk R v' n).entries k same_count x
      other k t (Some e) x =
          walks-alike.same k e x
          (sym (own_block holds' e (lies n (covers R n v holds) k e x).within) ∙ a.others k e x t ∙ own_is R n v holds k e x)

      pub several : Isolated (walk R v n) (walk R v' n) altered
      several = record {
        count = same_count;
        places = walks-alike.places;
        others = λ k t. other k t (slice_get (walk R v n).entries k) refl;
        rest = walks-alike.rest;
      }

    -- ---- one altered PDU

    module _ (k : ℕ) (e : Entry H) (a : AlteredOne R n v v' k e) where
      -- another PDU has its bits
      other_own : (j : ℕ) (d : Entry H) → IsPdu R n v j d → (k ≡ j → ⊥) → own_bits n v' d ≡ own_bits n v d
      unfolding own_bits
      other_own j d x ne =
          same-part v v' d.bit (size_in n d) (omega (arith, l.within, holds.inside)) (omega (arith, l.within, holds'.inside))
          (λ i lo hi. a.outside i (omega (arith, l.within)) (elim (dec_lt j k) [ yes h ↦ inl (before h i hi) | no h ↦ inr (behind h i lo) ]))
        where
          l : Lies n 0 d
          l = lies n (covers R n v holds) j d x

          before : j < k → (i : ℕ) → i < d.bit + size_in n d → i < e.bit
          before h i hi = omega (arith, apart n (covers R n v holds) j k d e h x a.pdu)

          behind : ¬ (j < k) → (i : ℕ) → d.bit ≤ i → e.bit + size_in n e ≤ i
          behind h i lo = omega (arith, apart n (covers R n v holds) k j e d (omega (arith, ne)) a.pdu x)

      same-pdu : (j : ℕ) (d : Entry H) → IsPdu R n v j d → k ≡ j → e ≡ d
      same-pdu j d x t = same_Some e d (sym a.pdu ∙ ap (slice_get (walk R v n).entries) t ∙ x)

      as_several : Altered R n v v' (eqb k)
      as_several = record {
        spared = λ j d x t. subst (SparedIn n v v') (same-pdu j d x (eqb-true k j t)) a.spared;
        others = λ j d x t. other_own j d x (eqb-false k j t);
      }

      pub one : Isolated (walk R v n) (walk R v' n) (eqb k)
      one = several (eqb k) as_several

  -- bits put into a PDU alter it
  pub any_bits_lem : (n : ℕ) (v : List ℕ) → IsBlock n v → (k : ℕ) (e : Entry H) → IsPdu R n v k e
      → (xs : List Bool) → length xs ≡ size_in n e → ((i : ℕ) → Spared (own_bits n v e) i → get_or xs i false ≡ get_or (own_bits n v e) i false)
      → AlteredOne R n v (put_bits v e.bit xs) k e
  unfolding own_bits
  any_bits_lem n v holds k e x xs len same =
      let l : Lies n 0 e = lies n (covers R n v holds) k e x in
      let within : e.bit + length xs ≤ 8 * length v = omega arith in
      record {
        pdu = x;
        spared = λ i sp.
            let near : i < least_bits = spared-near (own_bits n v e) i sp in
            sym (bit-part (put_bits v e.bit xs) e.bit (length xs) i (omega arith))
            ∙ ap (λ w. get_or w i false) (bits_at_put_bits v e.bit xs within) ∙ same i sp ∙ bit-part v e.bit (size_in n e) i (omega arith);
        outside = λ i _ out. put-outside v e.bit xs i within (rw len out);
      }
