use mathlib.Core.Path.{ap, ◌∙◌}
use Rattle.mac_resource.specs.Address.{is_null}
use Rattle.mac_resource.specs.MacResource.{alone_refusal}
use Rattle.mac_resource.specs.Laws.Encoded.{alone-encodes}
use Rattle.mac_resource.specs.declared.mac_resource.MacResource.{MacResource}
use Rattle.tetra_resource.specs.MacResource.{mac_resource_value}
use Rattle.tetra_resource.specs.Laws.Parts.{null-same, front_same, alone-same, own_length}
use Rattle.tetra_resource.proofs.encoded_alone.Goals as goal

pub rest_of-rest-requires : goal.rest_of-rest-requires
rest_of-rest-requires c =
    (c.requires, c.is_null_pdu.ensures ∙ ap (λ (h : MacResource). is_null h.addr) c.bare_of-h.ensures ∙ null-same c.args.words.now)

pub returns : goal.returns
returns c =
    let ws = c.args.words.now in
    rw c.whole.ensures
    (alone-encodes (mac_resource_value ws) c.alone_refusal.result c.front_alone-front.result c.rest_of-rest.result
    (c.alone_refusal.ensures ∙ ap alone_refusal c.bare_of-h.ensures ∙ alone-same ws)
    (rw (own_length ws) at (front_same ws _ c.front_alone-front.result (rw c.bare_of-h.ensures at c.front_alone-front.ensures))) c.rest_of-rest.ensures)
