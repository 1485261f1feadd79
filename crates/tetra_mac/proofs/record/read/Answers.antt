use mathlib.Core.Path.{◌∙◌}
use native.Mathlib.Omega.{arith}
use borrow.Author.Rules.{rules}
use Rattle.tetra_mac.specs.Laws.Placed.{offset-fits}
use Rattle.tetra_mac.specs.Laws.Reply.{read_no_room, read-replied}
use Rattle.tetra_mac.proofs.record.read.Goals as goal

pub deny-requires : goal.deny-requires
deny-requires g c = (search rules, offset-fits g.T.Header.reader g.met.T.Record.placed _ _ c.from_bitbuf-done.ensures c.in-Err.is)

pub returns-in-Ok : goal.returns-in-Ok
returns-in-Ok g c =
    rw (← c.from_bitbuf-done.ensures) (read-replied _ _ _ _ _ (omega (arith, c.if-out.false)) c.in-Ok.is (c.give.ensures ∙ rw c.words-words.ensures))

pub returns-in-Err : goal.returns-in-Err
returns-in-Err g c =
    rw (← c.from_bitbuf-done.ensures) (read-replied _ _ _ _ _ (omega (arith, c.if-out.false)) c.in-Err.is c.deny.ensures)

pub returns-then-out : goal.returns-then-out
returns-then-out g c = read_no_room _ _ _ _ _ (omega (arith, c.if-out.true))
