-- Slot granting: how long it is, what was written is read back, and what was read is written again.
use Rattle.std.specs.Prelude.{ℕ, ◌+◌, ◌≤◌, ◌≡◌, refl, List, [], ◌++◌, Bool, length, None, Option, Some}
use Rattle.std.proofs.Common.{add_assoc, append_assoc, lit≤}
use Rattle.codec.specs.Reader.{got, parse}
use Rattle.codec.specs.Row.{row_bits}
use Rattle.codec.proofs.Laws.Row.{length_row}
use Rattle.codec.specs.WrittenAgain.{Every}
use Rattle.tetra_fields.specs.BasicSlotgrant.{slotgrant_size, read_slotgrant, slotgrant_refusal, slotgrant_row}
use Rattle.tetra_fields.specs.Laws.BasicSlotgrant.{slotgrant_back, SlotgrantAgain, slotgrant_every}
use Rattle.optional_elements.specs.SlotGranting.{granting_most, granting_len, read_granting, granting_refusal, granting_row}
use Rattle.optional_elements.specs.Optional.{IsOptional}
use Rattle.optional_elements.specs.Laws.Optional.{optional-zero, optional-one, optional_every}
use Rattle.tetra_fields.specs.declared.fields.basic_slotgrant.BasicSlotgrant.{BasicSlotgrant}

pub granting-length : (g : Option BasicSlotgrant) → length (row_bits (granting_row g)) ≡ granting_len g
unfolding slotgrant_row
granting-length None = length_row (granting_row None)
granting-length (Some g) = length_row (granting_row (Some g))

pub granting-bounds : (g : Option BasicSlotgrant) → (1 ≤ granting_len g) × (granting_len g ≤ granting_most)
granting-bounds None = (lit≤ tt, lit≤ tt)
granting-bounds (Some g) = (lit≤ tt, lit≤ tt)

-- its refusal, its length and its bits are those of an optional slot grant
pub granting-optional : (g : Option BasicSlotgrant)
    → IsOptional slotgrant_refusal (λ _. slotgrant_size) (λ e. row_bits (slotgrant_row e)) g (granting_refusal g) (granting_len g) (row_bits (granting_row g))
unfolding row_bits
granting-optional None = record { refusal = refl; size = refl; bits = refl }
granting-optional (Some g) = record { refusal = refl; size = refl; bits = append_assoc _ [] (row_bits (slotgrant_row g)) }

pub granting-back : (g : Option BasicSlotgrant) → granting_refusal g ≡ 0 → (rest : List Bool) (o : ℕ)
    → parse read_granting (row_bits (granting_row g) ++ rest) o ≡ got g rest (o + granting_len g)
unfolding read_granting
granting-back None e rest o = optional-zero read_slotgrant rest o
granting-back (Some g) e rest o =
    rw (optional-one read_slotgrant (slotgrant_row g) rest o, slotgrant_back g e rest (o + 1), add_assoc)

-- it is not refused, and its bits are xs
abbrev pub GrantingAgain : Option BasicSlotgrant → List Bool → Type 0
GrantingAgain g xs = (granting_refusal g ≡ 0) × (row_bits (granting_row g) ≡ xs)

pub granting_every : Every read_granting GrantingAgain
unfolding read_granting row_bits
granting_every = optional_every SlotgrantAgain GrantingAgain read_slotgrant slotgrant_every (λ g xs h. (h.0, rw h.1)) (refl, refl)
