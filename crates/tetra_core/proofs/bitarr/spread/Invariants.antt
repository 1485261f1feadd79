use Rattle.std.proofs.Common.{◌≡◌, ℕ, ◌-◌, ◌/◌, ◌%◌, ◌^◌, ◌<◌, get_or}
use Rattle.tetra_core.proofs.bitarr.spread.Given as goal

abbrev pub invariant-loop-i : goal.invariant-loop-i
invariant-loop-i l = (k : ℕ) → k < l.i → get_or l.buf k 0 ≡ l.x / 2 ^ (l.n - 1 - k) % 2
