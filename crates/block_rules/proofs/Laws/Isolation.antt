-- Altered PDUs, in lists of bits: two blocks of one length that agree in the spared bits of each PDU have walks alike.
use Rattle.std.proofs.lemmas.Option.{same_Some}
use Rattle.std.specs.Prelude.{◌≡◌, refl, ℕ, zero, suc, ◌+◌, ◌≤◌, length, get_or, take, drop, Some, slice_get}
use Rattle.std.proofs.Math.Path.{sym, ap}
use Rattle.std.proofs.Common.{◌∙◌, subst, arith, length-drop}
use Rattle.std.proofs.Math.Bool.{Bool, false}
use mathlib.Core.List.{List, ◌∷◌, map}
use Rattle.std.proofs.Math.Seq.{get_or-drop}
use Rattle.block_rules.specs.declared.extent.Extent.{Extent}
use Rattle.block_rules.specs.Extent.{extent, Spared}
use Rattle.block_rules.specs.Codec.{HeaderReader}
use Rattle.block_rules.specs.Read.{read_own, read_pdu}
use Rattle.block_rules.specs.Walk.{Pdu, Entry, place, end_from, own_size, Walk, go_on}
use Rattle.block_rules.proofs.Laws.Extents.{extent-spared}
use Rattle.block_rules.proofs.Laws.Walks.{from, entry_at, from_end, from-unsized, from_null, from-sized, walk-ind}
use Rattle.block_rules.proofs.Laws.Covering.{Each}
use Rattle.block_rules.proofs.Laws.Own.{own_in}

-- the PDU at bit p of b has its spared bits in b' too
unfoldable pub KeptAt : (b b' : List Bool) → ℕ → Type 0
KeptAt b b' p = (i : ℕ) → Spared (drop p b) i → get_or b' (p + i) false ≡ get_or b (p + i) false

module _ {H : Type 0} (b b' : List Bool) where
  -- two walks with the same places and the same rest, and with the same entry wherever its bits are the same
  pub record Alike (w w' : Walk H) : Type 0 where
    pub places : map place w'.entries ≡ map place w.entries
    pub rest : w'.rest_at ≡ w.rest_at
    pub same : (k : ℕ) (e : Entry H) → slice_get w.entries k ≡ Some e → own_in b' e ≡ own_in b e → slice_get w'.entries k ≡ Some e

  alike_same : (w w' : Walk H) → w' ≡ w → Alike w w'
  alike_same w w' e = rw e (record { places = refl; rest = refl; same = λ k e x _. x })

module _ {H : Type 0} (R : HeaderReader H) (b b' : List Bool) (len : length b' ≡ length b) where
  abbrev pub Kept : Walk H → Type 0
  Kept w = Each (λ (e : Entry H). KeptAt b b' e.bit) w.entries

  extent-kept : (p : ℕ) (f : Extent) → KeptAt b b' p → extent (drop p b) ≡ f → extent (drop p b') ≡ f
  unfolding KeptAt
  extent-kept p f h e =
      sym (extent-spared (drop p b) (drop p b') (simp (length-drop, len))
      (λ i s. rw (get_or-drop p b i false, get_or-drop p b' i false) (sym (h i s)))) ∙ e

  -- an entry at p before walks that are alike
  alike-sized : (p s : ℕ) → Alike b b' (from R b (p + s)) (from R b' (p + s))
      → Alike b b' (entry_at R b p (Pdu.sized s (read_pdu R (drop p b) s))) (entry_at R b' p (Pdu.sized s (read_pdu R (drop p b') s)))
  unfolding place end_from own_size read_pdu go_on
  alike-sized p s a = record { places = ap (λ l. (p, Some (p + s)) ∷ l) a.places; rest = a.rest; same = go }
    where
      head : List Bool → Entry H
      head own = record { bit = p; pdu = Pdu.sized s (read_own R own) }

      go : (k : ℕ) (e : Entry H) → slice_get (head (take s (drop p b)) ∷ (from R b (p + s)).entries) k ≡ Some e → own_in b' e ≡ own_in b e
          → slice_get (head (take s (drop p b')) ∷ (from R b' (p + s)).entries) k ≡ Some e
      go zero e x y =
          let z : head (take s (drop p b)) ≡ e = same_Some _ e x in
          let w : take s (drop p b') ≡ take s (drop p b) = subst (λ d. own_in b' d ≡ own_in b d) (sym z) y in
          ap (λ own. Some (head own)) w ∙ x
      go (suc k) e x y = a.same k e x y

  pub alike : (p : ℕ) → p ≤ length b → Kept (from R b p) → Alike b b' (from R b p) (from R b' p)
  unfolding go_on
  alike =
      walk-ind R b (λ p w. Kept w → Alike b b' w (from R b' p))
      (λ p h k _. alike_same b b' _ _ (from_end R b' p (omega arith) (omega arith)))
      (λ p r h e k. alike_same b b' _ _ (from-unsized R b' p r (omega arith) (extent-kept p _ (k 0 _ refl) e)))
      (λ p l h e k. alike_same b b' _ _ (from_null R b' p l (omega arith) (extent-kept p _ (k 0 _ refl) e)))
      (λ p s h m e ih k.
      rw (from-sized R b' p s (omega arith) (extent-kept p _ (k 0 _ refl) e))
      (alike-sized p s (ih (p + s) (omega arith) m (λ j d x. k (suc j) d x))))
