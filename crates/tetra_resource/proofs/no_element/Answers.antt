use Rattle.tetra_resource.specs.Laws.Parts.{power-there, granting-there, allocation-asked}
use Rattle.tetra_resource.proofs.no_element.Goals as goal

pub returns-then-words-ne0-2 : goal.returns-then-words-ne0-2
returns-then-words-ne0-2 c = granting-there _ c.if-words-ne0.false c.if-words-ne0-2.true

pub returns : goal.returns
returns c = allocation-asked _ c.if-words-ne0.false c.if-words-ne0-2.false

pub returns-then-words-ne0 : goal.returns-then-words-ne0
returns-then-words-ne0 c = power-there _ c.if-words-ne0.true
