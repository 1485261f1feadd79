use mathlib.Core.Path.{refl}
use native.Mathlib.Omega.{arith}
use Rattle.block_rules.proofs.Laws.Lists.{length-fill}
use Rattle.codec.proofs.Pieces.{put-behind}
use Rattle.mac_block.proofs.Puts.{fill_is, fill_more}
use Rattle.mac_block.proofs.fill.put_fill.Goals as goal

pub returns : goal.returns
returns c =
    let a = c.args in
    rw (c.put_span.ensures, c.put_by_words.ensures, fill_is 1 64 refl, ← fill_more 64 a.n (λ z. omega arith) (omega arith))
    (put-behind _ _ 64 _ _ (length-fill 64) (omega arith) refl refl)
