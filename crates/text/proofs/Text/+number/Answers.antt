use Rattle.std.proofs.Common.{arith}
use Rattle.text.specs.Laws.Decimals.{number-one, number_more}
use Rattle.text.proofs.Text.+number.Goals as goal

pub returns-then-n-lt10 : goal.returns-then-n-lt10
returns-then-n-lt10 t c = number-one _ (omega arith) c.byte.ensures

pub returns-else-n-lt10 : goal.returns-else-n-lt10
returns-else-n-lt10 t c = number_more _ (omega arith) (omega arith) c.number.ensures c.byte-else-n-lt10.ensures
