use Rattle.block_walk.specs.Laws.Going.{steps_left}
use Rattle.block_walk.proofs.+rest_from.Given as goal

abbrev pub decreases-rest_from : goal.decreases-rest_from
decreases-rest_from l = steps_left l.bits l.position
