-- Power control (document 01): "three flags, each followed by its element if set: power 4".
use Rattle.std.specs.Prelude.{ℕ, ◌+◌, List, [], ◌∷◌, None, Option, Some}
use Rattle.codec.specs.Reader.{Reader, done, field}
use Rattle.codec.specs.Row.{Cell, cell}
use Rattle.codec.specs.Width.{too_wide}
use Rattle.optional_elements.specs.Optional.{optional}

-- ---- how many bits

abbrev pub level_len : ℕ
level_len = 4

abbrev pub power_most : ℕ
power_most = 1 + level_len

abbrev pub power_len : Option ℕ → ℕ
power_len None = 1
power_len (Some v) = power_most

-- ---- what is read

abbrev pub read_level : Reader ℕ
read_level = field level_len done

unfoldable pub read_power : Reader (Option ℕ)
read_power = optional read_level

-- ---- what is written

abbrev pub power_refusal : Option ℕ → ℕ
power_refusal None = 0
power_refusal (Some v) = too_wide 4 v

abbrev pub power_row : Option ℕ → List Cell
power_row None = cell 1 0 ∷ []
power_row (Some v) = cell 1 1 ∷ cell 4 v ∷ []
