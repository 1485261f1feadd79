-- Where the last 1 of some bits stands.
use Rattle.std.specs.Prelude.{Bool, List, ℕ, ◌+◌, length, None, Option, Some}

-- of bits that begin at the bit p, by the bits before it
unfoldable pub last_one : ℕ → Option (List Bool) → Option ℕ
last_one p (Some c) = Some (p + length c)
last_one p None = None
