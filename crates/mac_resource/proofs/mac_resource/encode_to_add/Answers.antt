use Rattle.mac_resource.specs.Laws.Encoded.{add-encodes}
use Rattle.mac_resource.proofs.mac_resource.encode_to_add.Goals as goal

pub returns : goal.returns
returns c =
    rw c.whole.ensures
    (add-encodes c.args.h c.null_added.result c.front_to_add-front.result c.rest_encoded.result c.null_added.ensures c.front_to_add-front.ensures c.rest_encoded.ensures)
