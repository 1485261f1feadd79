use Rattle.std.proofs.Common.{length}
use Rattle.bits.proofs.word.+store_all.Given as goal

abbrev pub decreases-store_all : goal.decreases-store_all
decreases-store_all l = length l.s.now
