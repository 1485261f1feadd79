use Prim.Native.Nat.{◌≤◌}
use mathlib.Core.Path.{sym, ◌∙◌}
use Rattle.codec.specs.Header.{Word, within}
use Rattle.codec.proofs.Laws.Header.{parsed_word}
use Rattle.optional_elements.specs.Optional.{optional}
use Rattle.optional_elements.specs.PowerControl.{read_power}
use Rattle.optional_elements.specs.SlotGranting.{read_granting}
use Rattle.optional_elements.specs.Allocation.{read_allocation}
use Rattle.optional_elements.specs.GrantAndAllocation.{read_grant_and_allocation}
use Rattle.optional_elements.specs.Elements.{flags_len, read_elements}
use Rattle.optional_elements.specs.Laws.Elements.{flags_clear}
use Rattle.optional_elements.proofs.elements.read_elements.Goals.{Then-no_element}
use Rattle.optional_elements.proofs.elements.read_elements.Goals as goal

-- the flags are one word
clear : (c : Then-no_element) → let a = c.args in
    Word (within a.s.now a.c) a.a.at flags_len 0 × (flags_len ≤ a.a.left)
clear c = flags_clear c.requires.1 c.requires.2 (sym c.no_element.ensures ∙ c.if-no_element.true)

pub returns-then-no_element : goal.returns-then-no_element
unfolding read_elements read_power read_grant_and_allocation read_granting read_allocation optional
returns-then-no_element c =
    record { means = rw (c.no_elements.ensures, c.advance.ensures, parsed_word read_elements (clear (goal.at.returns-then-no_element c).Then-no_element).0) }
