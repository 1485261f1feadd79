use mathlib.Core.Path.{ap}
use Rattle.tetra_block.specs.Block.{writer_moved}
use Rattle.tetra_mac.specs.Laws.Reply.{write_no_room, write_replied}
use Rattle.tetra_block.proofs.tetra_block_finish.Goals as goal

pub returns : goal.returns
returns c =
    let e = c.finish-done.ensures in
    write_replied _ _ _ _ c.if-out-lt1.false (ap (writer_moved _) e.0, e.1) c.writer_moved.ensures

pub returns-then-out-lt1 : goal.returns-then-out-lt1
returns-then-out-lt1 c = write_no_room _ _ _ _ _ c.if-out-lt1.true
