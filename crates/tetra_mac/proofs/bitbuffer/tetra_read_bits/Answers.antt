use mathlib.Core.Path.{refl}
use borrow.Author.Rules.{rules}
use Rattle.tetra_mac.specs.Laws.Bits.{read-bits-bit}
use Rattle.tetra_mac.specs.Laws.Reply.{read_no_room, read-replied}
use Rattle.tetra_mac.proofs.bitbuffer.tetra_read_bits.Goals as goal

pub bits_reply-requires : goal.bits_reply-requires
bits_reply-requires c = (search rules, rw c.read_bits-done.ensures (read-bits-bit _ _ _))

pub returns : goal.returns
returns c =
    rw (← c.read_bits-done.ensures) (read-replied _ _ _ _ _ c.if-out-lt2.false refl c.bits_reply.ensures)

pub returns-then-out-lt2 : goal.returns-then-out-lt2
returns-then-out-lt2 c = read_no_room _ _ _ _ _ c.if-out-lt2.true
