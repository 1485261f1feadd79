-- A value against the width of its field: number 3, "value wider than its field".
use Rattle.std.specs.Prelude.{ℕ, ◌^◌, ltb}
use Rattle.tetra_core.specs.Refusal.{unless}

-- the refusal of the value v in a field of w bits, or 0
abbrev pub too_wide : (w v : ℕ) → ℕ
too_wide w v = unless (ltb v (2 ^ w)) 3
