use native.Mathlib.Omega.{arith}
use borrow.Author.Tests.{le-leb, lt-leb}
use Rattle.tetra_core.specs.Refusal.{first}
use Rattle.access_assign.specs.Usage.{traffic_refusal}
use Rattle.access_assign.proofs.enums.traffic_refusal.Goals as goal

pub returns-then-chan-gt63 : goal.returns-then-chan-gt63
unfolding traffic_refusal first
returns-then-chan-gt63 c = rw (lt-leb c.args.chan 63 (omega arith))

pub returns-then-chan-lt4 : goal.returns-then-chan-lt4
unfolding traffic_refusal first
returns-then-chan-lt4 c = let n = c.args.chan in rw (le-leb n 63 (omega arith), lt-leb 4 n (omega arith))

pub returns : goal.returns
unfolding traffic_refusal first
returns c = let n = c.args.chan in rw (le-leb n 63 (omega arith), le-leb 4 n (omega arith))
