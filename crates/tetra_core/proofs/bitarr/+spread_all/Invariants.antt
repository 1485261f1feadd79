use Rattle.std.proofs.Common.{length}
use Rattle.tetra_core.proofs.bitarr.+spread_all.Given as goal

abbrev pub decreases-spread_all : goal.decreases-spread_all
decreases-spread_all l = length l.buf.now
