use Rattle.std.specs.Prelude.{Ok}
use mathlib.Core.Path.{sym, ap, ◌∙◌}
use Rattle.tetra_mac.specs.Reply.{replied}
use Rattle.tetra_mac.specs.Laws.Reply.{read_no_room, read-replied}
use Rattle.tetra_block.specs.Laws.{step_bit_lem}
use Rattle.tetra_block.proofs.tetra_block_step.Goals as goal

pub status-requires : goal.status-requires
status-requires c = step_bit_lem _ _ _ c.step.ensures c.in-Err.is

pub returns-in-Ok-Some : goal.returns-in-Ok-Some
returns-in-Ok-Some c =
    read-replied _ _ _ _ _ c.if-out-lt-ENTRY_WORDS.false (sym c.step.ensures ∙ c.in-Ok-Some.is ∙ ap Ok c.in-Ok-Some.field-0-is) (ap (replied 0) c.put_entry.ensures)

pub returns-in-Ok-None : goal.returns-in-Ok-None
returns-in-Ok-None c =
    read-replied _ _ _ _ _ c.if-out-lt-ENTRY_WORDS.false (sym c.step.ensures ∙ c.in-Ok-None.is ∙ ap Ok c.in-Ok-None.field-0-is) (ap (replied 0) c.put_bare.ensures)

pub returns-in-Err : goal.returns-in-Err
returns-in-Err c =
    read-replied _ _ _ _ _ c.if-out-lt-ENTRY_WORDS.false (sym c.step.ensures ∙ c.in-Err.is) (rw c.status.ensures)

pub returns-then-out-lt-ENTRY_WORDS : goal.returns-then-out-lt-ENTRY_WORDS
returns-then-out-lt-ENTRY_WORDS c = read_no_room _ _ _ _ _ c.if-out-lt-ENTRY_WORDS.true
