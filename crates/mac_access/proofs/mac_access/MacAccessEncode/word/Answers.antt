use Prim.Native.Nat.{◌*◌}
use mathlib.Core.Path.{refl}
use native.Mathlib.Nat.{add-zero}
use Rattle.codec.proofs.Laws.Row.{row_is}
use Rattle.codec.proofs.Laws.Piece.{row_holds}
use Rattle.tetra_fields.specs.Laws.UplinkHead.{allowed, uplink_joined}
use Rattle.mac_access.specs.MacAccess.{head_of, option_row, mac_access_row, mac_access_size, mac_access_refusal}
use Rattle.mac_access.specs.declared.mac_access.MacAccessOption.TheVariants.{Without, LengthInd, CapacityRequest}
use Rattle.mac_access.specs.Laws.MacAccess.{option_fits}
use Rattle.mac_access.proofs.mac_access.MacAccessEncode.word.Goals as goal

pub uplink_word-head-requires : goal.uplink_word-head-requires
unfolding mac_access_refusal
uplink_word-head-requires c = (allowed _ _ _ c.requires).address

pub returns-in-Without : goal.returns-in-Without
unfolding mac_access_row mac_access_size
returns-in-Without c =
    rw c.in-Without.is
    (row_holds (rw (add-zero (c.uplink_word-head.result * 2)) at (uplink_joined 1 (head_of c.args.self) c.uplink_word-head.ensures.0 (row_is (option_row Without) (option_fits Without refl)))))

pub returns-in-LengthInd : goal.returns-in-LengthInd
unfolding mac_access_row mac_access_size mac_access_refusal
returns-in-LengthInd c =
    let f = rw c.in-LengthInd.is at (allowed _ _ _ c.requires).fields in
    let o = LengthInd c.in-LengthInd.n in
    rw c.in-LengthInd.is (row_holds (uplink_joined 1 (head_of c.args.self) c.uplink_word-head.ensures.0 (row_is (option_row o) (option_fits o f))))

pub returns-in-CapacityRequest : goal.returns-in-CapacityRequest
unfolding mac_access_row mac_access_size
returns-in-CapacityRequest c =
    let o = CapacityRequest c.in-CapacityRequest.frag_flag c.in-CapacityRequest.reservation_req in
    rw (c.in-CapacityRequest.is, c.bit-frag.ensures.0, c.into_raw-req.ensures.0)
    (row_holds (uplink_joined 1 (head_of c.args.self) c.uplink_word-head.ensures.0 (row_is (option_row o) (option_fits o refl))))
