use mathlib.Core.List.{append-nil}
use mathlib.Core.Path.{sym, ◌∙◌}
use native.Mathlib.Omega.{arith}
use Rattle.bits.proofs.Laws.Values.{bits-zero}
use Rattle.codec.specs.Write.{write_at, written_at}
use Rattle.codec.proofs.Laws.Write.{free}
use Rattle.codec.proofs.Laws.Piece.{piece_size}
use Rattle.codec.proofs.encoded.write.Goals as goal

pub put-requires : goal.put-requires
put-requires c z =
    let f = free _ _ _ _ (sym c.write_refusal-judged.ensures ∙ z) in
    let g = f.good in
    let d = c.requires in
    record {
      first = (d.fit f.value).0;
      second = omega arith;
      few_first = d.few.0;
      few_second = omega arith;
      room = omega arith;
      near = omega arith;
    }

pub moved_unless-requires : goal.moved_unless-requires
moved_unless-requires c z =
    let f = free _ _ _ _ (sym c.write_refusal-judged.ensures ∙ z) in
    let g = f.good in
    omega arith

pub returns : goal.returns
unfolding write_at written_at
returns c =
    rw (append-nil, piece_size _, ← c.write_refusal-judged.ensures) (c.moved_unless.ensures, rw (bits-zero, append-nil) at c.put.ensures)
