use Rattle.mac_block.specs.Added.{encoded_answer}
use Rattle.mac_block.proofs.Judged.{outcome_is}
use Rattle.mac_block.proofs.writer.add_encoded.Goals as goal

pub returns : goal.returns
unfolding encoded_answer
returns c =
    let e = c.put_add-after.ensures in
    (rw (e.0, outcome_is c.add_refusal-judged.result _ c.add_refusal-judged.ensures, c.size-header_bits.ensures), e.1)
