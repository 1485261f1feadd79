-- The slot grant as a record of 3 words: capacity code 0 to 15; delay kind (0 next opportunity, 1 count, 2 frame 18, 3 wait); delay count
-- (only for kind 1, read as 0 otherwise).
use Rattle.std.specs.Prelude.{ℕ, min, List, [], ◌∷◌, Bool, ◌&&◌, length, get_or, leb, Option}
use Rattle.tetra_core.specs.declared.bitbuffer.Cursor.{Cursor}
use Rattle.tetra_fields.specs.BasicSlotgrant.{cap_alloc_number, cap_alloc_of, slotgrant_at, slotgrant_write, slotgrant_written}
use Rattle.tetra_fields.specs.declared.enums.basic_slotgrant_granting_delay.BasicSlotgrantGrantingDelay.{BasicSlotgrantGrantingDelay}
use Rattle.tetra_fields.specs.declared.enums.basic_slotgrant_granting_delay.BasicSlotgrantGrantingDelay.TheVariants.{CapAllocAtNextOpportunity, DelayNOpportunities, AllocStartsAtOpportunityInFr18, WaitForAnotherSlotgrantMessage}
use Rattle.tetra_fields.specs.declared.fields.basic_slotgrant.BasicSlotgrant.{BasicSlotgrant}
use Rattle.tetra_mac.specs.Reply.{Reply, WriteReply, header_read_reply, write_reply, value_if, word}

-- ---- the words of a slot grant

abbrev pub delay_kind : BasicSlotgrantGrantingDelay → ℕ
delay_kind CapAllocAtNextOpportunity = 0
delay_kind (DelayNOpportunities n) = 1
delay_kind AllocStartsAtOpportunityInFr18 = 2
delay_kind WaitForAnotherSlotgrantMessage = 3

abbrev pub delay_count : BasicSlotgrantGrantingDelay → ℕ
delay_count CapAllocAtNextOpportunity = 0
delay_count (DelayNOpportunities n) = n
delay_count AllocStartsAtOpportunityInFr18 = 0
delay_count WaitForAnotherSlotgrantMessage = 0

abbrev pub slotgrant_words : BasicSlotgrant → List ℕ
slotgrant_words g = cap_alloc_number g.capacity_allocation ∷ delay_kind g.granting_delay ∷ delay_count g.granting_delay ∷ []

-- ---- the slot grant of words

-- the delays of the kinds 0 to 2; what is known and none of these is kind 3
abbrev pub delays : ℕ → List BasicSlotgrantGrantingDelay
delays count = CapAllocAtNextOpportunity ∷ DelayNOpportunities count ∷ AllocStartsAtOpportunityInFr18 ∷ []

unfoldable pub delay_value : ℕ → ℕ → BasicSlotgrantGrantingDelay
delay_value kind count = get_or (delays count) kind WaitForAnotherSlotgrantMessage

unfoldable pub slotgrant_known : List ℕ → Bool
slotgrant_known ws = leb 3 (length ws) && (leb (word ws 0) 15 && leb (word ws 1) 3)

unfoldable pub slotgrant_value : List ℕ → BasicSlotgrant
slotgrant_value ws = record { capacity_allocation = cap_alloc_of (word ws 0); granting_delay = delay_value (word ws 1) (min (word ws 2) 255) }

abbrev pub slotgrant_of_words : List ℕ → Option BasicSlotgrant
slotgrant_of_words ws = value_if (slotgrant_known ws) (slotgrant_value ws)

-- ---- the calls

abbrev pub slotgrant_read_reply : List ℕ → Cursor → List ℕ → Reply
slotgrant_read_reply s c out = header_read_reply slotgrant_words 4 (slotgrant_at s c) out

abbrev pub slotgrant_write_reply : List ℕ → Cursor → List ℕ → List ℕ → WriteReply
slotgrant_write_reply s c ws out = write_reply (slotgrant_write s c) (slotgrant_written s c) s (slotgrant_of_words ws) out
