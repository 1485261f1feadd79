use mathlib.Core.Path.{refl}
use Rattle.codec.proofs.Laws.Row.{row_is}
use Rattle.mac_data.specs.MacData.{option_row}
use Rattle.mac_data.specs.declared.mac_data.MacDataOption.TheVariants.{LengthInd, CapacityRequest}
use Rattle.mac_data.specs.Laws.MacData.{option_fits}
use Rattle.mac_data.proofs.mac_data.option_word.Goals as goal

pub returns-in-LengthInd : goal.returns-in-LengthInd
returns-in-LengthInd c =
    let o = LengthInd c.in-LengthInd.n in
    rw c.in-LengthInd.is (row_is (option_row o) (option_fits o (rw c.in-LengthInd.is at c.requires)))

pub returns-in-CapacityRequest : goal.returns-in-CapacityRequest
returns-in-CapacityRequest c =
    let o = CapacityRequest c.in-CapacityRequest.frag_flag c.in-CapacityRequest.reservation_req in
    rw (c.in-CapacityRequest.is, c.bit-frag.ensures.0, c.into_raw-req.ensures.0) (row_is (option_row o) (option_fits o refl))
