use mathlib.Core.Path.{refl, ap, ◌∙◌}
use mathlib.Core.List.{[], ◌∷◌, ◌++◌, append_assoc}
use borrow.Author.Tests.{eq-eqb, ne_eqb}
use Rattle.codec.specs.Row.{cell, row_bits}
use Rattle.codec.proofs.Laws.Row.{row_is, rows_append, rows_joined}
use Rattle.codec.proofs.Laws.Piece.{row_holds}
use Rattle.channel_allocation.specs.ChannelAllocation.{frame18_number, head_row, patterns_row, channel_allocation_bits, channel_allocation_len}
use Rattle.channel_allocation.specs.Laws.ChannelAllocation.{channel_allocation-told, frame18-fits}
use Rattle.channel_allocation.proofs.channel_allocation.channel_allocation_word.Goals as goal

pub returns-then-e-eq0 : goal.returns-then-e-eq0
unfolding channel_allocation_bits channel_allocation_len patterns_row
returns-then-e-eq0 c =
    let e = c.args.e in
    let z = c.if-e-eq0.true in
    let m = cell 2 e.mon_pattern ∷ [] in
    let f = cell 2 (frame18_number e.frame18_mon_pattern) ∷ [] in
    let x = row_is m ((channel_allocation-told e c.requires).1, tt) in
    let y = row_is f ((frame18-fits e c.requires z).0, tt) in
    let j = rows_joined (rows_joined c.head_word.ensures x) y in
    rw (c.frame18_into_raw.ensures.0, eq-eqb _ _ z)
    (record { is = j.bits ∙ ap row_bits (append_assoc (head_row e) m f) ∙ rows_append (head_row e) (m ++ f); size = refl; small = j.small })

pub returns : goal.returns
unfolding channel_allocation_bits channel_allocation_len patterns_row
returns c =
    let e = c.args.e in
    let m = row_is (cell 2 e.mon_pattern ∷ []) ((channel_allocation-told e c.requires).1, tt) in
    let j = rows_joined c.head_word.ensures m in
    rw (ne_eqb _ _ c.if-e-eq0.false, ← rows_append) (row_holds j)
