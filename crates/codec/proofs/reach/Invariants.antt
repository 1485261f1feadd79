use Rattle.std.proofs.Common.{◌≡◌, ◌+◌, ◌-◌, ◌≤◌, drop}
use Rattle.codec.specs.Words.{short_at}
use Rattle.codec.proofs.reach.Given as goal

abbrev pub invariant-loop-width : goal.invariant-loop-width
invariant-loop-width l = (l.at ≤ l.left) × (short_at l.widths l.left ≡ l.at + short_at (drop l.width-index l.widths) (l.left - l.at))
