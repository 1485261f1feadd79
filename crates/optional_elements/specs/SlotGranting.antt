-- Slot granting (document 01): "three flags, each followed by its element if set: .. slot grant 8".
use Rattle.std.specs.Prelude.{ℕ, ◌+◌, List, [], ◌∷◌, None, Option, Some}
use Rattle.codec.specs.Reader.{Reader}
use Rattle.codec.specs.Row.{Cell, cell}
use Rattle.tetra_fields.specs.BasicSlotgrant.{read_slotgrant, slotgrant_refusal, slotgrant_row}
use Rattle.optional_elements.specs.Optional.{optional}
use Rattle.tetra_fields.specs.declared.fields.basic_slotgrant.BasicSlotgrant.{BasicSlotgrant}

-- ---- how many bits

abbrev pub granting_most : ℕ
granting_most = 1 + 8

abbrev pub granting_len : Option BasicSlotgrant → ℕ
granting_len None = 1
granting_len (Some g) = granting_most

-- ---- what is read

unfoldable pub read_granting : Reader (Option BasicSlotgrant)
read_granting = optional read_slotgrant

-- ---- what is written

abbrev pub granting_refusal : Option BasicSlotgrant → ℕ
granting_refusal None = 0
granting_refusal (Some g) = slotgrant_refusal g

abbrev pub granting_row : Option BasicSlotgrant → List Cell
granting_row None = cell 1 0 ∷ []
granting_row (Some g) = cell 1 1 ∷ slotgrant_row g
