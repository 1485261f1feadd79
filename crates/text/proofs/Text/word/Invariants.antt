-- The bytes before the next one are put.
use Rattle.std.proofs.Common.{take}
use Rattle.text.specs.Put.{Put}
use Rattle.text.proofs.Text.word.Given as goal

abbrev pub invariant-loop-b : goal.invariant-loop-b
invariant-loop-b l = Put l.b-index l.initial.self (take l.b-index l.w) l.self
