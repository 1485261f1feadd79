-- The laws of specs/Width.antt.
use Rattle.std.specs.Prelude.{ℕ, ◌^◌, ◌<◌, ◌≡◌}
use Rattle.std.proofs.Common.{ltb-true}
use Rattle.tetra_core.specs.Refusal.{passed}
use Rattle.codec.specs.Width.{too_wide}

-- a value that is not refused fits its field
pub fits-field : (w v : ℕ) → too_wide w v ≡ 0 → v < 2 ^ w
fits-field w v e = ltb-true v (2 ^ w) (passed _ 2 e)
