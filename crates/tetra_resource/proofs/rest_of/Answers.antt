use Rattle.std.specs.Prelude.{Ok}
use mathlib.Core.Path.{refl, sym, ◌∙◌}
use Rattle.mac_resource.specs.MacResource.{elements_of}
use Rattle.optional_elements.specs.Elements.{flags_len}
use Rattle.optional_elements.specs.Laws.Elements.{bare_encodes}
use Rattle.mac_resource.specs.Laws.Encoded.{null-encodes}
use Rattle.tetra_resource.specs.MacResource.{mac_resource_value}
use Rattle.tetra_resource.specs.Laws.Parts.{elements_are, rest_encoded}
use Rattle.tetra_resource.proofs.rest_of.Goals as goal

pub returns-then-null : goal.returns-then-null
returns-then-null c = null-encodes (mac_resource_value c.args.words.now) (sym c.requires.1 ∙ c.if-null.true)

pub returns-then-no_element : goal.returns-then-no_element
returns-then-no_element c =
    let ws = c.args.words.now in
    rest_encoded ws (record { judged = Ok tt; piece = record { value = 0; bits = flags_len } }) refl (sym c.requires.1 ∙ c.if-null.false) (bare_encodes (elements_of (mac_resource_value ws)) (sym c.no_element.ensures ∙ c.if-no_element.true))

pub returns : goal.returns
returns c =
    let ws = c.args.words.now in
    rest_encoded ws c.elements_encoded.result (elements_are ws c.power_of-power_control_element.ensures c.element_value-slot_granting_element.ensures c.element_value-chan_alloc_element.ensures) (sym c.requires.1 ∙ c.if-null.false) c.elements_encoded.ensures
