use Rattle.codec.proofs.Laws.Encoded.{header-writable, header-written}
use Rattle.mac_resource.specs.MacResource.{mac_resource_refusal, EncodesResource}
use Rattle.mac_resource.specs.Laws.MacResource.{told}
use Rattle.mac_resource.specs.Laws.Encoded.{alone-encodes}
use Rattle.mac_resource.proofs.mac_resource.to_bitbuf.Goals.{After-whole-e}
use Rattle.mac_resource.proofs.mac_resource.to_bitbuf.Goals as goal

encodes : (c : After-whole-e) → let h = c.args.h in
    EncodesResource (mac_resource_refusal h) h c.whole-e.result
encodes c =
    rw c.whole-e.ensures
    (alone-encodes c.args.h c.alone_refusal.result c.front_alone-front.result c.rest_encoded.result c.alone_refusal.ensures c.front_alone-front.ensures c.rest_encoded.ensures)

pub write_header-requires : goal.write_header-requires
write_header-requires c =
    let h = c.args.h in
    header-writable (encodes (goal.at.write_header-requires c).After-whole-e) h.length_ind h.fill_bits (λ z. (told _ z).small)

pub returns : goal.returns
returns c =
    let h = c.args.h in
    header-written (encodes (goal.at.returns c).After-whole-e) h.length_ind h.fill_bits (λ z. (told _ z).small) _ _ c.write_header.ensures
