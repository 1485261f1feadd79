-- A local that is lent by `&mut` for one call, for a lifetime below κ, and comes back, whatever its type. For proofs by hand of functions that
-- lend a struct. The callee's bound `'a: 's`, at 's = ν ∷ κ and 'a = κ, is `below`.
--     Lent ν δ     what the lender keeps: the way back to ν's whole token, and the lender's part of the loan
--     lends        the local's cell at vs ∗ own h vs ∗ [κ]_q  ⊢ ⇛ ∃ ν δ. own (the `&(ν ∷ κ) mut T` to the local, under δ, at h) ∗ [ν ∷ κ]_left q ∗ [κ]_right q ∗ Lent ν δ
--     comes_back   ([ν ∷ κ]_left q ∗ [κ]_right q) ∗ Lent ν δ ∗ res δ h'  ⊢ ⇛ ∃ vs. (the local's cell at vs ∗ own h' vs) ∗ [κ]_q
-- Assumes `Logic`.
use Rattle.std.specs.Prelude.{ℕ}
use mathlib.Core.List.{List, [], ◌∷◌}
use seplogic.Ra.Ura.{Ura}
use base.Fraction.{full_share, left, right}
use mir.Syntax.{Lifetime}
use mir.Val.{Val, vptr}
use base.Logic.{ent, sep, ex, apply∗}
use base.Fml.{Lft, GName, Share, Fml, fsep, fwand, flft, fdead, fres, flent}
use types.Logic.{Logic, sem}
use contract.BorrowLft.{◌⊑◌, meet_⊑_left, meet_⊑_right}
use types.Kit.{‵, ◌⊛◌, ⋆, some, later, ◌$◌, ◌∵◌, !, qed, move, use1, use2, use3, split, join, pick, fsplit, fjoin, fpick, fpack, frame, await, updating, now as at_once, show, done}
use types.SemTy.{Body}
use types.Tokens.{lft_new, lft_end}
use Rattle.std.specs.Borrow.{RattleType}
use denote.Memory.{mem, cell_at, part_of}
use denote.Ref.{MutRef}
use denote.Lend.{lends_ref, ref_back}

pub below : (ν : ℕ) (κ : Lft) → ν ∷ κ ⊑ κ
below ν κ = meet_⊑_right (ν ∷ []) κ

module _ (R : RattleType) (κ : Lft) (q : Share) (l : ℕ) where
  abbrev pub Lent : ℕ → GName → Fml
  Lent ν δ = fsep (fwand (flft (ν ∷ []) (left q)) (flft (ν ∷ []) full_share)) (flent (ν ∷ κ) (Body (mem R) l 0 δ))

  abbrev pub ref : Lifetime → R.Denot → ℕ → GName → Fml
  ref ℓ h ν δ = (MutRef ℓ (ν ∷ κ) R).own_val (record { ref_ptr = (l, 0); ghost_name = δ; now = h }) (vptr l 0 ∷ [])

  module _ {M : Type 1} {𝓤 : Ura M} (𝓛 : Logic 𝓤) (ℓ : Lifetime) where
    open 𝓛 use {H, A}

    pub lends : (h : R.Denot) (vs : List Val) → ent 𝓤 (⋆ 𝓛 (‵ (cell_at full_share R.mir vs l 0) ∷ ‵ (R.own_val h vs) ∷ ‵ (flft κ q) ∷ []))
        (H.⇛ (ex 𝓤 (λ (ν : ℕ). ex 𝓤 (λ (δ : GName). sep 𝓤 (sem 𝓛 (ref ℓ h ν δ)) (sep 𝓤 (A.lft (ν ∷ κ) (left q)) (sep 𝓤 (A.lft κ (right q)) (sem 𝓛 (Lent ν δ))))))))
    unfolding part_of
    lends h vs =
        qed 𝓛 (‵ (cell_at full_share R.mir vs l 0) ∷ ‵ (R.own_val h vs) ∷ ‵ (flft κ q) ∷ []) ∵ updating ! $
        fjoin ! $ fpack ! (List Val) (λ us. fsep (cell_at full_share R.mir us l 0) (R.own_val h us)) vs $
        lft_new ! tt (λ ν. use1 𝓛 (‵ (flft (ν ∷ []) (left q)) ⊛ ‵ (fwand (flft (ν ∷ []) (left q)) (flft (ν ∷ []) full_share))) (𝓛.lfts.lft_carve ν (left q)) $ split ! $
        -- [ν's share; the way back; the local; κ's token]
        move ! (3 ∷ []) $ use1 𝓛 (‵ (flft κ (left q)) ⊛ ‵ (flft κ (right q))) (𝓛.lfts.lft_split κ q) $ split ! $
        move ! (2 ∷ 0 ∷ []) $ use2 𝓛 (‵ (flft (ν ∷ κ) (left q))) (𝓛.lfts.lft_meet (ν ∷ []) κ (left q)) $
        -- [the loan's token; κ's other half; the way back; the local]
        move ! (3 ∷ []) $ use1 𝓛 (later (some (λ (δ : GName). ‵ (ref ℓ h ν δ) ⊛ ‵ (flent (ν ∷ κ) (Body (mem R) l 0 δ))))) (lends_ref 𝓛 R ℓ (ν ∷ κ) h l 0) $ await ! tt $ pick ! (λ δ. split ! $
        move ! (4 ∷ 1 ∷ []) $ fjoin ! $ at_once ! $
        show ! (λ (ν' : ℕ). ex 𝓤 (λ (δ' : GName). sep 𝓤 (sem 𝓛 (ref ℓ h ν' δ')) (sep 𝓤 (A.lft (ν' ∷ κ) (left q)) (sep 𝓤 (A.lft κ (right q)) (sem 𝓛 (Lent ν' δ')))))) ν $
        show ! (λ (δ' : GName). sep 𝓤 (sem 𝓛 (ref ℓ h ν δ')) (sep 𝓤 (A.lft (ν ∷ κ) (left q)) (sep 𝓤 (A.lft κ (right q)) (sem 𝓛 (Lent ν δ'))))) δ $
        move ! (1 ∷ 2 ∷ 3 ∷ 0 ∷ []) $ done !))

    pub comes_back : (ν : ℕ) (δ : GName) (h' : R.Denot) → ent 𝓤 (⋆ 𝓛 ((‵ (flft (ν ∷ κ) (left q)) ⊛ ‵ (flft κ (right q))) ∷ ‵ (Lent ν δ) ∷ ‵ (fres δ (R.coded.code h')) ∷ []))
        (H.⇛ (ex 𝓤 (λ (vs : List Val). sep 𝓤 (sep 𝓤 (sem 𝓛 (cell_at full_share R.mir vs l 0)) (sem 𝓛 (R.own_val h' vs))) (A.lft κ q))))
    unfolding part_of
    comes_back ν δ h' =
        qed 𝓛 ((‵ (flft (ν ∷ κ) (left q)) ⊛ ‵ (flft κ (right q))) ∷ ‵ (Lent ν δ) ∷ ‵ (fres δ (R.coded.code h')) ∷ []) ∵ updating ! $ split ! $
        use1 𝓛 (‵ (flft (ν ∷ []) (left q)) ⊛ ‵ (flft κ (left q))) (𝓛.lfts.lft_unmeet (ν ∷ []) κ (left q)) $ split ! $
        move ! (1 ∷ 2 ∷ []) $ use2 𝓛 (‵ (flft κ q)) (𝓛.lfts.lft_join κ q) $
        -- [κ's token; ν's share; Lent; the last value]
        move ! (2 ∷ []) $ fsplit ! $ move ! (3 ∷ 0 ∷ []) $ use2 𝓛 (‵ (flft (ν ∷ []) full_share)) (apply∗ 𝓤 (A.lft (ν ∷ []) (left q)) (A.lft (ν ∷ []) full_share)) $
        lft_end ! tt $ use1 𝓛 (‵ (fdead (ν ∷ κ))) (𝓛.lfts.dead-incl (ν ∷ κ) (ν ∷ []) (meet_⊑_left (ν ∷ []) κ)) $
        -- [the loan is over; the lender's part; κ's token; the last value]
        move ! (0 ∷ 1 ∷ 3 ∷ []) $ use3 𝓛 (later (‵ ((mem R).own_at h' l 0))) (ref_back 𝓛 R (ν ∷ κ) δ h' l 0) $ await ! tt $ fpick ! (λ vs. fsplit ! $ at_once ! $
        show ! (λ (us : List Val). sep 𝓤 (sep 𝓤 (sem 𝓛 (cell_at full_share R.mir us l 0)) (sem 𝓛 (R.own_val h' us))) (A.lft κ q)) vs $ join ! $ frame ! $ done !)
