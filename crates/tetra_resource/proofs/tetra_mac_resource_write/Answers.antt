use mathlib.Core.Bool.{not}
use mathlib.Core.Path.{refl, sym, ap, ◌∙◌}
use Prim.Native.Nat.{◌≤◌}
use lib.ListN.{length}
use Rattle.codec.proofs.Laws.Encoded.{header-writable, header-written}
use Rattle.mac_resource.specs.Laws.MacResource.{told}
use Rattle.tetra_mac.specs.Laws.Reply.{write_no_room, record_unknown, record_replied}
use Rattle.tetra_resource.specs.MacResource.{mac_resource_value}
use Rattle.tetra_resource.specs.Laws.MacResource.{mac_resource_long}
use Rattle.tetra_resource.specs.Laws.Parts.{own_length, own_fill}
use Rattle.tetra_resource.proofs.tetra_mac_resource_write.Goals.{Else-not-mac_resource_known}
use Rattle.tetra_resource.proofs.tetra_mac_resource_write.Goals as goal

long : (c : Else-not-mac_resource_known) → 25 ≤ length c.args.words.now
long c = mac_resource_long _ (sym c.mac_resource_known.ensures ∙ c.if-not-mac_resource_known.false)

pub write_header-done-requires : goal.write_header-done-requires
write_header-done-requires c =
    let ws = c.args.words.now in
    header-writable c.encoded_alone-e.ensures c.first_fields-f.result.length_ind c.first_fields-f.result.fill_bits (λ z. rw (c.first_fields-f.ensures, own_length ws) (told (mac_resource_value ws) z).small)

pub returns : goal.returns
returns c =
    let a = c.args in
    let ws = a.words.now in
    let h = mac_resource_value ws in
    let x = header-written c.encoded_alone-e.ensures h.length_ind h.fill_bits (λ z. (told h z).small) _ _
    (rw (c.first_fields-f.ensures, own_length ws, own_fill ws) at c.write_header-done.ensures) in
    record_replied _ _ _ _ _ c.mac_resource_known.ensures (ap not c.if-not-mac_resource_known.false) c.if-out-lt1.false refl x c.moved.ensures

pub returns-then-out-lt1 : goal.returns-then-out-lt1
returns-then-out-lt1 c = write_no_room _ _ _ _ _ c.if-out-lt1.true

pub returns-then-not-mac_resource_known : goal.returns-then-not-mac_resource_known
returns-then-not-mac_resource_known c = record_unknown _ _ _ _ _ c.mac_resource_known.ensures (ap not c.if-not-mac_resource_known.true)

pub first_fields-f-requires : goal.first_fields-f-requires
first_fields-f-requires c = long c

pub encoded_alone-e-requires : goal.encoded_alone-e-requires
encoded_alone-e-requires c = long (goal.at.encoded_alone-e-requires c).Else-not-mac_resource_known
