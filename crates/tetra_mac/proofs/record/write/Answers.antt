use mathlib.Core.Bool.{not}
use mathlib.Core.Path.{ap}
use Rattle.tetra_mac.specs.Laws.Reply.{write_no_room, record_unknown, record_replied}
use Rattle.tetra_mac.proofs.record.write.Goals as goal

pub returns : goal.returns
returns g c =
    record_replied _ _ _ _ _ c.known.ensures (ap not c.if-not-known.false) c.if-out-lt1.false c.value-h.ensures c.to_bitbuf-done.ensures c.moved.ensures

pub returns-then-out-lt1 : goal.returns-then-out-lt1
returns-then-out-lt1 g c = write_no_room _ _ _ _ _ c.if-out-lt1.true

pub returns-then-not-known : goal.returns-then-not-known
returns-then-not-known g c = record_unknown _ _ _ _ _ c.known.ensures (ap not c.if-not-known.true)
