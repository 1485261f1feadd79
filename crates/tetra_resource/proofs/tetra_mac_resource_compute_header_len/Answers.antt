use mathlib.Core.Bool.{not}
use mathlib.Core.Path.{sym, ap, ◌∙◌}
use Rattle.tetra_mac.specs.Laws.Reply.{count_no_room, count_unknown, count-replied}
use Rattle.tetra_resource.specs.Laws.MacResource.{mac_resource_long}
use Rattle.tetra_resource.proofs.tetra_mac_resource_compute_header_len.Goals as goal

pub mac_resource_value-h-requires : goal.mac_resource_value-h-requires
mac_resource_value-h-requires c = mac_resource_long _ (sym c.mac_resource_known.ensures ∙ c.if-not-mac_resource_known.false)

pub returns : goal.returns
returns c =
    count-replied _ _ _ _ c.mac_resource_known.ensures (ap not c.if-not-mac_resource_known.false) c.if-out-lt1.false c.mac_resource_value-h.ensures (rw (← c.compute_header_len.ensures) c.counted.ensures)

pub returns-then-out-lt1 : goal.returns-then-out-lt1
returns-then-out-lt1 c = count_no_room _ _ _ _ c.if-out-lt1.true

pub returns-then-not-mac_resource_known : goal.returns-then-not-mac_resource_known
returns-then-not-mac_resource_known c = count_unknown _ _ _ _ c.mac_resource_known.ensures (ap not c.if-not-mac_resource_known.true)
