use mathlib.Core.Path.{sym, ◌∙◌}
use native.Mathlib.Omega.{arith}
use Rattle.codec.specs.Write.{write_at, written_at}
use Rattle.codec.proofs.Laws.Write.{free}
use Rattle.codec.proofs.Laws.Encoded.{with_size}
use Rattle.codec.proofs.encoded.write_header.Goals as goal

pub put_header-requires : goal.put_header-requires
put_header-requires c =
    let d = c.requires in (
      d.1.few,
      λ z.
          let f = free _ _ _ _ (sym c.write_refusal-judged.ensures ∙ z) in
          let g = f.good in
          record { placed = d.0; fit = d.1.fit f.value; room = omega (arith, c.size-size.ensures); near = omega (arith, c.size-size.ensures) },
    )

pub moved_unless-requires : goal.moved_unless-requires
moved_unless-requires c z =
    let f = free _ _ _ _ (sym c.write_refusal-judged.ensures ∙ z) in
    let g = f.good in
    omega arith

pub returns : goal.returns
unfolding write_at written_at
returns c =
    let a = c.args in
    rw (with_size a.e a.length_ind a.fill_bits, ← c.size-size.ensures, ← c.write_refusal-judged.ensures) (c.moved_unless.ensures, c.put_header.ensures)
