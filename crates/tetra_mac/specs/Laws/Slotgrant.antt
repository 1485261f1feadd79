-- The slot grant's words give it back, it is refused only at offsets that were reached, and so its refusals have a bit that fits a status.
use Rattle.std.specs.Prelude.{ℕ, min, ◌≤◌, ◌≡◌, refl, List, true, length, Some, Err}
use Rattle.std.proofs.Common.{arith, le-leb}
use Rattle.tetra_core.specs.declared.bitbuffer.Cursor.{Cursor}
use Rattle.tetra_core.specs.declared.bitbuffer.Read.{Read}
use Rattle.tetra_core.specs.declared.refusal.Refusal.{Refusal}
use Rattle.tetra_fields.specs.BasicSlotgrant.{cap_alloc_number, read_slotgrant, slotgrant_at}
use Rattle.tetra_fields.specs.Laws.BasicSlotgrant.{cap_alloc_back}
use Rattle.tetra_fields.specs.declared.enums.basic_slotgrant_granting_delay.BasicSlotgrantGrantingDelay.{BasicSlotgrantGrantingDelay}
use Rattle.tetra_fields.specs.declared.enums.basic_slotgrant_granting_delay.BasicSlotgrantGrantingDelay.TheVariants.{CapAllocAtNextOpportunity, DelayNOpportunities, AllocStartsAtOpportunityInFr18, WaitForAnotherSlotgrantMessage}
use Rattle.tetra_fields.specs.declared.fields.basic_slotgrant.BasicSlotgrant.{BasicSlotgrant}
use Rattle.tetra_mac.specs.Slotgrant.{delay_kind, delay_count, delay_value, slotgrant_words, slotgrant_known, slotgrant_value, slotgrant_of_words}
use Rattle.tetra_mac.specs.Laws.Placed.{Placed, offset-fits}
use Rattle.tetra_mac.specs.Laws.Reply.{kept, value_known, long-enough}

-- a count of type u8 is kept
delay_kept : (d : BasicSlotgrantGrantingDelay) → delay_count d ≤ 255 → (delay_kind d ≤ 3) × (delay_value (delay_kind d) (min (delay_count d) 255) ≡ d)
unfolding delay_value
delay_kept CapAllocAtNextOpportunity h = (omega arith, refl)
delay_kept (DelayNOpportunities n) h = (omega arith, rw (kept n 255 h))
delay_kept AllocStartsAtOpportunityInFr18 h = (omega arith, refl)
delay_kept WaitForAnotherSlotgrantMessage h = (omega arith, refl)

pub slotgrant_kept : (g : BasicSlotgrant) → delay_count g.granting_delay ≤ 255
    → (slotgrant_known (slotgrant_words g) ≡ true) × (slotgrant_value (slotgrant_words g) ≡ g)
unfolding slotgrant_known slotgrant_value
slotgrant_kept g h =
    let k = delay_kept g.granting_delay h in
    let b = cap_alloc_back g.capacity_allocation in
    (rw (le-leb (cap_alloc_number g.capacity_allocation) 15 (omega (arith, b.0)), le-leb (delay_kind g.granting_delay) 3 k.0), rw (b.1, k.1))

pub slotgrant_of_words_lem : (g : BasicSlotgrant) → delay_count g.granting_delay ≤ 255 → slotgrant_of_words (slotgrant_words g) ≡ Some g
slotgrant_of_words_lem g h = value_known (slotgrant_kept g h)

pub slotgrant_long : (ws : List ℕ) → slotgrant_known ws ≡ true → 3 ≤ length ws
unfolding slotgrant_known
slotgrant_long ws e = long-enough 3 ws _ e

pub slotgrant_placed : Placed 0 read_slotgrant
unfolding read_slotgrant
slotgrant_placed = λ v w. tt

pub slotgrant_bit_lem : (s : List ℕ) (c : Cursor) {d : Read BasicSlotgrant} {r : Refusal} → d ≡ slotgrant_at s c → d.answer ≡ Err r → r.offset ≤ 65536
unfolding slotgrant_at
slotgrant_bit_lem = offset-fits read_slotgrant slotgrant_placed
