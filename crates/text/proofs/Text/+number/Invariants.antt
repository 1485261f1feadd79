-- The measure is the number: a tenth of it is less.
use Rattle.text.proofs.Text.+number.Given as goal

abbrev pub decreases-number : goal.decreases-number
decreases-number l = l.n
