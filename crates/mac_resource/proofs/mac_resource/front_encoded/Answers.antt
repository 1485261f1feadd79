use mathlib.Core.Path.{sym}
use native.Mathlib.Omega.{arith}
use Rattle.codec.proofs.Laws.Row.{row_is}
use Rattle.codec.proofs.Laws.Piece.{row_holds}
use Rattle.mac_resource.specs.Address.{address_row}
use Rattle.mac_resource.specs.Laws.Address.{address-size, address-fits}
use Rattle.mac_resource.specs.Laws.MacResource.{front-told}
use Rattle.mac_resource.proofs.mac_resource.front_encoded.Goals as goal

pub front_piece-requires : goal.front_piece-requires
front_piece-requires c =
    let a = c.args.h.addr in
    let t = front-told _ _ _ (sym (rw c.address_refusal-no_address.ensures at c.in-Ok.ensures)) in (
      record { position = t.position; encryption = t.encryption; len = omega arith },
      rw (c.address_piece-address.ensures, ← address-size a) (row_holds (row_is (address_row a) (address-fits a t.address))),
    )
