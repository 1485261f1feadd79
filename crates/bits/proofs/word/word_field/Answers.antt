use Rattle.bits.proofs.Laws.Shifts as nums
use Rattle.bits.proofs.word.word_field.Goals as goal

pub returns : goal.returns
returns c = nums.within-is c.args.x c.args.o c.args.n c.requires.0
