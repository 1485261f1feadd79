use Rattle.mac_resource.specs.Fixed.{fixed_row}
use Rattle.mac_resource.proofs.fixed.fixed_word.Goals as goal

pub returns : goal.returns
unfolding fixed_row
returns c =
    rw (c.into_raw-t.ensures.0, c.bit-fill.ensures.0, c.bit-random.ensures.0)
