-- Each record takes its count from what is left of the page.
use Rattle.std.proofs.Common.{◌≤◌, length}
use Rattle.replay.proofs.replay_page.Given as goal

abbrev pub invariant-loop-list : goal.invariant-loop-list
invariant-loop-list g l = length l.list.rest.now ≤ length l.page

abbrev pub decreases-loop-list : goal.decreases-loop-list
decreases-loop-list g l = length l.list.rest.now
