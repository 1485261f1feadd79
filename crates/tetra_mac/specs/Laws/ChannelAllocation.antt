-- The channel allocation's words give it back, it is refused only at offsets that were reached, and so its refusals have a bit that fits a status.
use Rattle.std.specs.Prelude.{ℕ, min, ◌≤◌, ◌≡◌, refl, List, true, length, None, Option, Some, Err}
use Rattle.std.proofs.Common.{arith, le-leb}
use Rattle.tetra_core.specs.declared.bitbuffer.Cursor.{Cursor}
use Rattle.tetra_core.specs.declared.bitbuffer.Read.{Read}
use Rattle.tetra_core.specs.declared.refusal.Refusal.{Refusal}
use Rattle.codec.proofs.Laws.Cases.{flag-back}
use Rattle.channel_allocation.specs.ChannelAllocation.{alloc_type_number, ul_dl_number, timeslots_number, frame18_number, read_mon_patterns, read_channel_allocation, channel_allocation_at}
use Rattle.channel_allocation.specs.Laws.ChannelAllocation.{alloc_type-back, ul_dl_back, timeslots_lt, timeslots_back}
use Rattle.channel_allocation.specs.declared.channel_allocation.ChanAllocElement.{ChanAllocElement}
use Rattle.tetra_mac.specs.Reply.{number_if}
use Rattle.tetra_mac.specs.ChannelAllocation.{frame18_present, frame18_value, channel_allocation_words, channel_allocation_known, channel_allocation_value, channel_allocation_of_words}
use Rattle.tetra_mac.specs.Laws.Placed.{Placed, offset-fits}
use Rattle.tetra_mac.specs.Laws.Reply.{kept, value_known, long-enough}

-- the numbers of a channel allocation are of the types of their fields
pub record ChannelAllocationTyped (e : ChanAllocElement) : Type 0 where
  pub carrier : e.carrier_num ≤ 65535
  pub pattern : e.mon_pattern ≤ 255
  pub frame18 : frame18_number e.frame18_mon_pattern ≤ 255

frame18-kept : (p : Option ℕ) → frame18_number p ≤ 255 → frame18_value (frame18_present p) (min (frame18_number p) 255) ≡ p
unfolding number_if
frame18-kept None h = refl
frame18-kept (Some v) h = rw (kept v 255 h)

pub channel_allocation-kept : (e : ChanAllocElement) → ChannelAllocationTyped e
    → (channel_allocation_known (channel_allocation_words e) ≡ true) × (channel_allocation_value (channel_allocation_words e) ≡ e)
unfolding channel_allocation_known channel_allocation_value
channel_allocation-kept e t =
    let a = alloc_type-back e.alloc_type in
    let d = ul_dl_back e.ul_dl_assigned in (
      rw (
        le-leb (alloc_type_number e.alloc_type) 3 (omega (arith, a.0)),
        le-leb (timeslots_number e.ts_assigned) 15 (omega (arith, timeslots_lt e.ts_assigned)),
        le-leb (ul_dl_number e.ul_dl_assigned) 3 (omega (arith, d.0)),
      ),
      rw (
        a.1,
        timeslots_back e.ts_assigned,
        d.1,
        flag-back e.clch_permission,
        flag-back e.cell_change_flag,
        kept e.carrier_num 65535 t.carrier,
        kept e.mon_pattern 255 t.pattern,
        frame18-kept e.frame18_mon_pattern t.frame18,
      ),
    )

pub channel_allocation-of_words : (e : ChanAllocElement) → ChannelAllocationTyped e → channel_allocation_of_words (channel_allocation_words e) ≡ Some e
channel_allocation-of_words e t = value_known (channel_allocation-kept e t)

pub channel_allocation-long : (ws : List ℕ) → channel_allocation_known ws ≡ true → 9 ≤ length ws
unfolding channel_allocation_known
channel_allocation-long ws e = long-enough 9 ws _ e

pub channel_allocation-placed : (o : ℕ) → Placed o read_channel_allocation
unfolding read_channel_allocation read_mon_patterns
channel_allocation-placed o = λ _ _ _ _ _ _ _. (omega arith, λ _. ((λ _. (omega arith, tt)), (omega arith, tt)))

pub channel_allocation-bit : (s : List ℕ) (c : Cursor) {d : Read ChanAllocElement} {r : Refusal} → d ≡ channel_allocation_at s c → d.answer ≡ Err r → r.offset ≤ 65536
unfolding channel_allocation_at
channel_allocation-bit = offset-fits read_channel_allocation (channel_allocation-placed 0)
