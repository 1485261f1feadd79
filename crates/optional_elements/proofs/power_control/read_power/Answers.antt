use Rattle.optional_elements.specs.PowerControl.{level_len, read_level, read_power}
use Rattle.optional_elements.proofs.power_control.read_power.Goals as goal

pub returns : goal.returns
unfolding read_power
returns c = c.read_optional.ensures read_level level_len (λ r e. e.1)
