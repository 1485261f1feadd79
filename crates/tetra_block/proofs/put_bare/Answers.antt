use mathlib.Core.Path.{◌∙◌}
use native.Mathlib.Omega.{arith}
use Rattle.tetra_block.specs.Block.{no_header}
use Rattle.tetra_block.specs.Laws.{put_both}
use Rattle.tetra_block.proofs.put_bare.Goals as goal

pub returns : goal.returns
returns c =
    let a = c.args in
    c.put_words-2.ensures ∙ rw c.put_words.ensures (put_both a.words.now no_header a.out.now 0 (omega arith))
