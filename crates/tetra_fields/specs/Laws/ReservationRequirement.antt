-- Reservation requirements: the number of a case and the case of a number, and the case that is enough for some slots.
use Rattle.std.specs.Prelude.{ℕ, zero, suc, ◌<◌, ◌≡◌, refl, List, [], ◌∷◌, Bool, true, false, ◌&&◌, get_or, leb}
use Rattle.std.proofs.Common.{sym, arith, lit<, leb-true, ne_eqb}
use Rattle.std.proofs.lemmas.Bool.{lt-leb}
use Rattle.tetra_core.specs.Laws.Windows.{and_both}
use Rattle.codec.proofs.Laws.AllBelow.{numbers}
use Rattle.tetra_fields.specs.ReservationRequirement.{reservation_number, reservation_of, reservations, slotcount, enough, first_for, reservation_for}
use Rattle.tetra_fields.specs.declared.enums.reservation_requirement.ReservationRequirement.{ReservationRequirement}
use Rattle.tetra_fields.specs.declared.enums.reservation_requirement.ReservationRequirement.TheVariants.{Req1Subslot, Req1Slot, Req2Slots, Req3Slots, Req4Slots, Req5Slots, Req6Slots, Req8Slots, Req10Slots, Req13Slots, Req17Slots, Req24Slots, Req34Slots, Req51Slots, Req68Slots, ReqOver68}
use Rattle.tetra_fields.specs.declared.enums.reservation_requirement.ReqSlotcount.{ReqSlotcount}
use Rattle.tetra_fields.specs.declared.enums.reservation_requirement.ReqSlotcount.TheVariants.{Subslot, Slots, Over68}

-- the number of a case has 4 bits and gives the case
pub reservation_back : (a : ReservationRequirement) → (reservation_number a < 16) × (reservation_of (reservation_number a) ≡ a)
unfolding reservation_of
reservation_back Req1Subslot = (lit< tt, refl)
reservation_back Req1Slot = (lit< tt, refl)
reservation_back Req2Slots = (lit< tt, refl)
reservation_back Req3Slots = (lit< tt, refl)
reservation_back Req4Slots = (lit< tt, refl)
reservation_back Req5Slots = (lit< tt, refl)
reservation_back Req6Slots = (lit< tt, refl)
reservation_back Req8Slots = (lit< tt, refl)
reservation_back Req10Slots = (lit< tt, refl)
reservation_back Req13Slots = (lit< tt, refl)
reservation_back Req17Slots = (lit< tt, refl)
reservation_back Req24Slots = (lit< tt, refl)
reservation_back Req34Slots = (lit< tt, refl)
reservation_back Req51Slots = (lit< tt, refl)
reservation_back Req68Slots = (lit< tt, refl)
reservation_back ReqOver68 = (lit< tt, refl)

-- the case of a number of 4 bits has that number
pub reservation_again : (v : ℕ) → v < 16 → reservation_number (reservation_of v) ≡ v
unfolding reservation_of
reservation_again = numbers reservation_number reservation_of 16 refl

-- ---- the case for some slots

-- m slots are at least what is asked for
abbrev at_most : ℕ → ReqSlotcount → Bool
at_most m Subslot = true
at_most m (Slots k) = leb k m
at_most m Over68 = false

-- the first i cases ask for at most m slots
abbrev pub up_to : ℕ → ℕ → List ReservationRequirement → Bool
up_to m zero rs = true
up_to m (suc i) [] = true
up_to m (suc i) (a ∷ rs) = at_most m (slotcount a) && up_to m i rs

too_few : (q : ReqSlotcount) (m n : ℕ) → at_most m q ≡ true → m < n → enough q n ≡ false
too_few Subslot m n e l = ne_eqb n 0 (λ z. omega arith)
too_few (Slots k) m n e l = let h = leb-true k m e in lt-leb n k (omega arith)
too_few Over68 m n e l = sym e

-- where i cases ask for at most m slots, m is less than n, and the next one is enough, that is the case
pub first-is : (rs : List ReservationRequirement) (i m n : ℕ) → up_to m i rs ≡ true → m < n → enough (slotcount (get_or rs i ReqOver68)) n ≡ true
    → get_or rs i ReqOver68 ≡ first_for n rs
first-is [] i m n u l e = refl
first-is (a ∷ rs) zero m n u l e = rw e
first-is (a ∷ rs) (suc i) m n u l e =
    let b = and_both (at_most m (slotcount a)) (up_to m i rs) u in
    rw (too_few (slotcount a) m n b.0 l) (first-is rs i m n b.1 l e)

-- what is asked for is enough
pub for_enough : (n : ℕ) → enough (slotcount (reservation_for n)) n ≡ true
unfolding reservation_for
for_enough n = go reservations
  where
    go : (rs : List ReservationRequirement) → enough (slotcount (first_for n rs)) n ≡ true
    go [] = refl
    go (a ∷ rs) = at (enough (slotcount a) n) refl (go rs)
      where
        at : (b : Bool) → enough (slotcount a) n ≡ b → enough (slotcount (first_for n rs)) n ≡ true → enough (slotcount (first_for n (a ∷ rs))) n ≡ true
        at true e h = rw e e
        at false e h = rw e h
