use mathlib.Core.List.{[], ◌∷◌}
use lib.Dec.{lit<}
use Rattle.codec.specs.Row.{cell}
use Rattle.codec.proofs.Laws.Row.{row_is}
use Rattle.codec.proofs.Laws.Piece.{row_holds, join_holds}
use Rattle.optional_elements.proofs.optional.flagged.Goals as goal

pub word-requires : goal.word-requires
word-requires g c = rw c.in-Some.is at c.requires.0

pub joined-requires : goal.joined-requires
joined-requires g c =
    let l = c.len.ensures.0 in
    (lit< tt, rw l c.word.ensures.small, rw l (rw c.in-Some.is at c.requires.1))

pub returns-in-None : goal.returns-in-None
returns-in-None g c = rw c.in-None.is (row_holds (row_is (cell 1 0 ∷ []) (lit< tt, tt)))

pub returns-in-Some : goal.returns-in-Some
returns-in-Some g c =
    let l = c.len.ensures.0 in
    let x = c.word.ensures in
    rw c.in-Some.is
    (join_holds (row_holds (row_is (cell 1 1 ∷ []) (lit< tt, tt))) (record { is = rw l x.is; size = l; small = rw l x.small }) c.joined.ensures)
