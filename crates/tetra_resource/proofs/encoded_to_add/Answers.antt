use mathlib.Core.Path.{ap, ◌∙◌}
use mathlib.Core.Bool.{Bool, not}
use Rattle.tetra_core.specs.Refusal.{unless}
use Rattle.mac_resource.specs.Address.{is_null}
use Rattle.mac_resource.specs.MacResource.{null_added}
use Rattle.mac_resource.specs.Laws.Encoded.{add-encodes}
use Rattle.mac_resource.specs.declared.mac_resource.MacResource.{MacResource}
use Rattle.tetra_resource.specs.MacResource.{mac_resource_value}
use Rattle.tetra_resource.specs.Laws.Parts.{null-same, front_same}
use Rattle.tetra_resource.proofs.encoded_to_add.Goals as goal

pub rest_of-rest-requires : goal.rest_of-rest-requires
rest_of-rest-requires c =
    (c.requires, c.is_null_pdu.ensures ∙ ap (λ (h : MacResource). is_null h.addr) c.bare_of-h.ensures ∙ null-same c.args.words.now)

pub returns : goal.returns
returns c =
    let ws = c.args.words.now in
    rw c.whole.ensures
    (add-encodes (mac_resource_value ws) c.null_added.result c.front_to_add-front.result c.rest_of-rest.result
    (c.null_added.ensures ∙ ap null_added c.bare_of-h.ensures ∙ ap (λ (t : Bool). unless (not t) 9) (null-same ws))
    (front_same ws _ c.front_to_add-front.result (rw c.bare_of-h.ensures at c.front_to_add-front.ensures)) c.rest_of-rest.ensures)
