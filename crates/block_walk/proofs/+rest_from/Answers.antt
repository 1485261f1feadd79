use Rattle.std.proofs.Common.{arith, sym, ap, ◌∙◌}
use Rattle.block_walk.specs.Positions.{walk_on, rest_from}
use Rattle.block_walk.specs.Laws.Going.{steps_left, fewer, same_rest}
use Rattle.block_walk.proofs.+rest_from.Goals as goal

pub rest_from-requires : goal.rest_from-requires
rest_from-requires t c =
    let f = fewer _ _ _ c.step_at.ensures in
    let e = ap (steps_left c.args.bits) c.in-At.is in
    (omega arith, tt)

pub returns-in-At : goal.returns-in-At
returns-in-At t c = c.rest_from.ensures ∙ same_rest _ _ _ c.step_at.ensures ∙ sym (ap (rest_from _ _) c.in-At.is)

pub returns-in-Ended : goal.returns-in-Ended
unfolding rest_from walk_on
returns-in-Ended t c = c.bits_between.ensures ∙ sym (ap (rest_from _ _) c.in-Ended.is)
