use mathlib.Core.Path.{refl}
use borrow.Author.Rules.{rules}
use mir.Facts.{to_z-of_z}
use Rattle.tetra_mac.specs.Laws.Bits.{peek_bits-bit}
use Rattle.tetra_mac.specs.Laws.Reply.{read_no_room, read-replied}
use Rattle.tetra_mac.proofs.bitbuffer.tetra_peek_bits_posoffset.Goals as goal

pub bits_reply-requires : goal.bits_reply-requires
bits_reply-requires c = (search rules, rw c.peek_bits_posoffset-done.ensures (peek_bits-bit _ _ _ _))

pub returns : goal.returns
returns c =
    let e = rw (to_z-of_z c.ranges.offset) at c.peek_bits_posoffset-done.ensures in
    rw (← e) (read-replied _ _ _ _ _ c.if-out-lt2.false refl c.bits_reply.ensures)

pub returns-then-out-lt2 : goal.returns-then-out-lt2
returns-then-out-lt2 c = read_no_room _ _ _ _ _ c.if-out-lt2.true
