use Rattle.tetra_mac.specs.Laws.Reply.{write_no_room, write_replied}
use Rattle.tetra_mac.proofs.bitbuffer.tetra_write_bits.Goals as goal

pub returns : goal.returns
returns c =
    write_replied _ _ _ _ c.if-out-lt1.false c.write_bits-done.ensures c.moved.ensures

pub returns-then-out-lt1 : goal.returns-then-out-lt1
returns-then-out-lt1 c = write_no_room _ _ _ _ _ c.if-out-lt1.true
