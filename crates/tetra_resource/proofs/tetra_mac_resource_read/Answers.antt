use borrow.Author.Rules.{rules}
use mathlib.Core.Path.{sym, ap, ◌∙◌}
use Rattle.tetra_mac.specs.Reply.{given_reply}
use Rattle.tetra_mac.specs.Laws.Reply.{read_no_room, read-replied}
use Rattle.tetra_resource.specs.Laws.MacResource.{mac_resource_bit_lem, null_words}
use Rattle.tetra_resource.proofs.tetra_mac_resource_read.Goals as goal

pub deny-requires : goal.deny-requires
deny-requires c =
    (search rules, mac_resource_bit_lem _ _ c.from_bitbuf-done.ensures c.in-Err.is)

pub returns-then-is_null_pdu : goal.returns-then-is_null_pdu
returns-then-is_null_pdu c =
    let n = null_words _ _ c.from_bitbuf-done.ensures c.in-Ok.is (sym c.is_null_pdu.ensures ∙ c.if-is_null_pdu.true) in
    rw (← c.from_bitbuf-done.ensures) (read-replied _ _ _ _ _ c.if-out-lt-READ_WORDS.false c.in-Ok.is (c.give_null.ensures ∙ ap (given_reply c.args.out.now c.from_bitbuf-done.result.cursor.pos) n))

pub returns-else-is_null_pdu : goal.returns-else-is_null_pdu
returns-else-is_null_pdu c =
    rw (← c.from_bitbuf-done.ensures) (read-replied _ _ _ _ _ c.if-out-lt-READ_WORDS.false c.in-Ok.is c.give_mac_resource.ensures)

pub returns-in-Err : goal.returns-in-Err
returns-in-Err c =
    rw (← c.from_bitbuf-done.ensures) (read-replied _ _ _ _ _ c.if-out-lt-READ_WORDS.false c.in-Err.is c.deny.ensures)

pub returns-then-out-lt-READ_WORDS : goal.returns-then-out-lt-READ_WORDS
returns-then-out-lt-READ_WORDS c = read_no_room _ _ _ _ _ c.if-out-lt-READ_WORDS.true
