use mathlib.Core.Path.{sym, ◌∙◌}
use Rattle.optional_elements.specs.Laws.Elements.{bare_encodes}
use Rattle.optional_elements.proofs.elements.elements_encoded.Goals as goal

pub returns-then-is_bare : goal.returns-then-is_bare
returns-then-is_bare c = bare_encodes _ (sym c.is_bare.ensures ∙ c.if-is_bare.true)
