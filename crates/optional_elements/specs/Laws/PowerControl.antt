-- Power control: how long it is, what was written is read back, and what was read is written again.
use Rattle.std.specs.Prelude.{ℕ, ◌+◌, ◌^◌, ◌≤◌, ◌<◌, ◌≡◌, refl, List, [], ◌∷◌, ◌++◌, Bool, length, None, Option, Some}
use Rattle.std.proofs.Common.{add_assoc, lit≤, lt-ltb}
use Rattle.codec.specs.Reader.{got, parse}
use Rattle.codec.specs.Row.{cell, row_bits}
use Rattle.codec.proofs.Laws.Row.{length_row}
use Rattle.codec.proofs.Laws.RoundTrip.{parse_row_lem}
use Rattle.codec.specs.WrittenAgain.{Every}
use Rattle.codec.proofs.Laws.Width.{fits-field}
use Rattle.optional_elements.specs.PowerControl.{power_most, power_len, read_level, read_power, power_refusal, power_row}
use Rattle.optional_elements.specs.Laws.Optional.{optional-zero, optional-one, optional_every}

pub power-length : (p : Option ℕ) → length (row_bits (power_row p)) ≡ power_len p
power-length None = length_row (power_row None)
power-length (Some v) = length_row (power_row (Some v))

pub power-bounds : (p : Option ℕ) → (1 ≤ power_len p) × (power_len p ≤ power_most)
power-bounds None = (lit≤ tt, lit≤ tt)
power-bounds (Some v) = (lit≤ tt, lit≤ tt)

pub power-back : (p : Option ℕ) → power_refusal p ≡ 0 → (rest : List Bool) (o : ℕ) → parse read_power (row_bits (power_row p) ++ rest) o ≡ got p rest (o + power_len p)
unfolding read_power
power-back None e rest o = optional-zero read_level rest o
power-back (Some v) e rest o =
    rw (optional-one read_level (cell 4 v ∷ []) rest o, parse_row_lem read_level (cell 4 v ∷ []) 0 rest (o + 1) (fits-field 4 v e, tt), add_assoc)

-- a level has 4 bits, which are xs
abbrev LevelAgain : ℕ → List Bool → Type 0
LevelAgain v xs = (v < 2 ^ 4) × (row_bits (cell 4 v ∷ []) ≡ xs)

-- it is not refused, and its bits are xs
abbrev pub PowerAgain : Option ℕ → List Bool → Type 0
PowerAgain p xs = (power_refusal p ≡ 0) × (row_bits (power_row p) ≡ xs)

pub power_every : Every read_power PowerAgain
unfolding read_power row_bits
power_every = optional_every LevelAgain PowerAgain read_level (λ v hv. (hv, refl)) (λ v xs h. (rw (lt-ltb v (2 ^ 4) h.0), rw h.1)) (refl, refl)
