use Rattle.mac_block.specs.Answers.{finish_answer}
use Rattle.mac_block.proofs.Judged.{outcome_is}
use Rattle.mac_block.proofs.writer.finish.Goals as goal

pub returns : goal.returns
unfolding finish_answer
returns c =
    let e = c.put_finish-after.ensures in
    (rw (e.0, outcome_is c.finish_refusal-judged.result _ c.finish_refusal-judged.ensures), e.1)
