-- A slot grant that nothing refuses fits its 8 bits; what was written is read back, and what was read is written as the same bits.
use Rattle.std.specs.Prelude.{ℕ, ◌+◌, ◌-◌, ◌<◌, ◌≡◌, refl, List, ◌++◌, Bool, length, take, leb, eqb, Ok}
use Rattle.std.proofs.Common.{mod-eq_of_lt, arith, lit<, leb-true, eqb-true, ne_eqb}
use Rattle.tetra_core.specs.BitBuffer.{moved}
use Rattle.tetra_core.specs.Refusal.{passed}
use Rattle.tetra_core.specs.Laws.Windows.{and_both}
use Rattle.tetra_core.specs.declared.bitbuffer.Cursor.{Cursor}
use Rattle.codec.specs.Reader.{got, parse}
use Rattle.codec.specs.Row.{row_bits, RowFits}
use Rattle.codec.proofs.Laws.Row.{length_row}
use Rattle.codec.specs.Write.{refusal_at}
use Rattle.codec.proofs.Laws.Write.{free}
use Rattle.codec.proofs.Laws.RoundTrip.{parse_row_lem, written_back}
use Rattle.codec.specs.WrittenAgain.{Every}
use Rattle.codec.proofs.Laws.WrittenAgain.{every_read}
use Rattle.codec.proofs.Laws.AllBelow.{below, numbers}
use Rattle.tetra_fields.specs.BasicSlotgrant.{slotgrant_size, cap_alloc_number, cap_alloc_of, delay_number, delay_of, delay_refusal, read_slotgrant, slotgrant_at, slotgrant_refusal, slotgrant_row, slotgrant_written}
use Rattle.tetra_fields.specs.declared.enums.basic_slotgrant_cap_alloc.BasicSlotgrantCapAlloc.{BasicSlotgrantCapAlloc}
use Rattle.tetra_fields.specs.declared.enums.basic_slotgrant_cap_alloc.BasicSlotgrantCapAlloc.TheVariants.{FirstSubslotGranted, Grant1Slot, Grant2Slots, Grant3Slots, Grant4Slots, Grant5Slots, Grant6Slots, Grant8Slots, Grant10Slots, Grant13Slots, Grant17Slots, Grant24Slots, Grant34Slots, Grant51Slots, Grant68Slots, SecondSubslotGranted}
use Rattle.tetra_fields.specs.declared.enums.basic_slotgrant_granting_delay.BasicSlotgrantGrantingDelay.{BasicSlotgrantGrantingDelay}
use Rattle.tetra_fields.specs.declared.enums.basic_slotgrant_granting_delay.BasicSlotgrantGrantingDelay.TheVariants.{CapAllocAtNextOpportunity, DelayNOpportunities, AllocStartsAtOpportunityInFr18, WaitForAnotherSlotgrantMessage}
use Rattle.tetra_fields.specs.declared.fields.basic_slotgrant.BasicSlotgrant.{BasicSlotgrant}

-- the number of a case has 4 bits and gives the case
pub cap_alloc_back : (a : BasicSlotgrantCapAlloc) → (cap_alloc_number a < 16) × (cap_alloc_of (cap_alloc_number a) ≡ a)
unfolding cap_alloc_of
cap_alloc_back FirstSubslotGranted = (lit< tt, refl)
cap_alloc_back Grant1Slot = (lit< tt, refl)
cap_alloc_back Grant2Slots = (lit< tt, refl)
cap_alloc_back Grant3Slots = (lit< tt, refl)
cap_alloc_back Grant4Slots = (lit< tt, refl)
cap_alloc_back Grant5Slots = (lit< tt, refl)
cap_alloc_back Grant6Slots = (lit< tt, refl)
cap_alloc_back Grant8Slots = (lit< tt, refl)
cap_alloc_back Grant10Slots = (lit< tt, refl)
cap_alloc_back Grant13Slots = (lit< tt, refl)
cap_alloc_back Grant17Slots = (lit< tt, refl)
cap_alloc_back Grant24Slots = (lit< tt, refl)
cap_alloc_back Grant34Slots = (lit< tt, refl)
cap_alloc_back Grant51Slots = (lit< tt, refl)
cap_alloc_back Grant68Slots = (lit< tt, refl)
cap_alloc_back SecondSubslotGranted = (lit< tt, refl)

pub delay_back : (d : BasicSlotgrantGrantingDelay) → delay_refusal d ≡ 0 → (delay_number d < 16) × (delay_of (delay_number d) ≡ d)
unfolding delay_of
delay_back CapAllocAtNextOpportunity e = (lit< tt, refl)
delay_back AllocStartsAtOpportunityInFr18 e = (lit< tt, refl)
delay_back WaitForAnotherSlotgrantMessage e = (lit< tt, refl)
delay_back (DelayNOpportunities n) e =
    let b = and_both (leb 1 n) (leb n 13) (passed _ 13 e) in
    let l = leb-true 1 n b.0 in
    let u = leb-true n 13 b.1 in
    let small : n < 16 = omega arith in
    (small, rw (mod-eq_of_lt small, ne_eqb n 0 (λ z. omega arith), ne_eqb n 14 (λ z. omega arith), ne_eqb n 15 (λ z. omega arith)))

pub slotgrant_length : (g : BasicSlotgrant) → length (row_bits (slotgrant_row g)) ≡ slotgrant_size
unfolding slotgrant_row
slotgrant_length g = length_row (slotgrant_row g)

module _ (g : BasicSlotgrant) (e : slotgrant_refusal g ≡ 0) where
  pub slotgrant_fits : RowFits (slotgrant_row g)
  unfolding slotgrant_row slotgrant_refusal
  slotgrant_fits = ((cap_alloc_back g.capacity_allocation).0, ((delay_back g.granting_delay e).0, tt))

  -- whatever follows its bits
  pub slotgrant_back : (rest : List Bool) (o : ℕ) → parse read_slotgrant (row_bits (slotgrant_row g) ++ rest) o ≡ got g rest (o + slotgrant_size)
  unfolding read_slotgrant slotgrant_row slotgrant_refusal
  slotgrant_back rest o =
      rw (parse_row_lem read_slotgrant (slotgrant_row g) 0 rest o slotgrant_fits, (cap_alloc_back g.capacity_allocation).1, (delay_back g.granting_delay e).1)

-- in bytes: what to_bitbuf wrote, from_bitbuf reads at the same cursor
pub slotgrant_written-back : (s : List ℕ) (c : Cursor) (g : BasicSlotgrant) → refusal_at (length s) c (slotgrant_refusal g) slotgrant_size ≡ 0
    → slotgrant_at (slotgrant_written s c g) c ≡ record { cursor = moved c slotgrant_size; answer = Ok g }
unfolding slotgrant_at
slotgrant_written-back s c g e =
    written_back read_slotgrant s c (slotgrant_refusal g) _ (slotgrant_length g) (λ rest. slotgrant_back g (free _ _ _ _ e).value rest 0) e

-- ---- what is read, written again

cap_alloc_numbers : (v : ℕ) → v < 16 → cap_alloc_number (cap_alloc_of v) ≡ v
unfolding cap_alloc_of
cap_alloc_numbers = numbers cap_alloc_number cap_alloc_of 16 refl

delay_numbers : (v : ℕ) → v < 16 → delay_number (delay_of v) ≡ v
unfolding delay_of
delay_numbers = numbers delay_number delay_of 16 refl

delay_free : (v : ℕ) → v < 16 → delay_refusal (delay_of v) ≡ 0
unfolding delay_of
delay_free v h = eqb-true _ _ (below 16 (λ v. eqb (delay_refusal (delay_of v)) 0) refl v h)

-- a slot grant is not refused, and its bits are xs
abbrev pub SlotgrantAgain : BasicSlotgrant → List Bool → Type 0
SlotgrantAgain g xs = (slotgrant_refusal g ≡ 0) × (row_bits (slotgrant_row g) ≡ xs)

pub slotgrant_every : Every read_slotgrant SlotgrantAgain
unfolding read_slotgrant slotgrant_refusal slotgrant_row row_bits
slotgrant_every a ha d hd = (delay_free d hd, rw (cap_alloc_numbers a ha, delay_numbers d hd))

pub slotgrant_again : (bs : List Bool) (o : ℕ) {g : BasicSlotgrant} {r : List Bool} {n : ℕ} → parse read_slotgrant bs o ≡ got g r n → SlotgrantAgain g (take (n - o) bs)
slotgrant_again = every_read read_slotgrant SlotgrantAgain slotgrant_every
