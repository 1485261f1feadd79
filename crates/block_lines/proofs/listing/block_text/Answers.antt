use Rattle.std.proofs.Common.{refl, sym, ◌∙◌}
use Rattle.block_walk.specs.Laws.Going.{fewer-entry}
use Rattle.block_lines.proofs.Texts.{nothing, turn, finish, some_entry, no_entry}
use Rattle.block_lines.proofs.listing.block_text.Goals as goal

pub loop-entry-init : goal.loop-entry-init
loop-entry-init c = rw c.new-walk.ensures (record { block = refl; bits = refl; written = nothing _ _ _ })

pub loop-entry-smaller : goal.loop-entry-smaller
loop-entry-smaller c =
    let l = c.loop-entry.invariant in
    let step = rw (l.block, l.bits) at c.next.ensures in
    rw step.1 (fewer-entry _ _ _ refl (some_entry _ _ (rw step.0 at (sym c.unwrap_or.ensures ∙ c.in-Some.is))))

pub loop-entry-preserved : goal.loop-entry-preserved
loop-entry-preserved c =
    let l = c.loop-entry.invariant in
    let step = rw (l.block, l.bits) at c.next.ensures in
    let line = rw c.entry_line.ensures at c.line_text.ensures in
    rw step.1 (record { block = refl; bits = refl; written = turn _ _ _ l.written refl (some_entry _ _ (rw step.0 at (sym c.unwrap_or.ensures ∙ c.in-Some.is))) line })

pub returns : goal.returns
returns c =
    let l = c.loop-entry.invariant in
    let step = rw (l.block, l.bits) at c.next.ensures in
    finish _ _ _ l.written refl (no_entry _ (λ e q. c.in_default.not-Some e (c.unwrap_or.ensures ∙ rw step.0 q))) (rw step.1 at c.rest.ensures) c.rest_text.ensures
