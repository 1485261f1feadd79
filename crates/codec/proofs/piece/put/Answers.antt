use native.Mathlib.Omega.{arith}
use mathlib.Core.Path.{◌≡◌, sym, ◌∙◌}
use mathlib.Core.List.{[], ◌++◌}
use lib.ListN.{length}
use Rattle.bits.proofs.Laws.Values.{bits-zero}
use Rattle.bits.proofs.Laws.Writes.{put_bits-nil}
use Rattle.tetra_core.specs.Refusal.{refused-none}
use Rattle.tetra_core.specs.Laws.Windows.{bytes-done}
use Rattle.codec.specs.Piece.{piece_bits, Puttable}
use Rattle.codec.proofs.Laws.Piece.{piece_size}
use Rattle.codec.proofs.Pieces.{put-behind}
use Rattle.codec.proofs.piece.put.Goals.{Else-is_err, Then-n-m-lt1}
use Rattle.codec.proofs.piece.put.Goals as goal

-- what is known where nothing refuses the pieces
given : (e : Else-is_err) → let a = e.args in Puttable (length a.s.now) a.pos a.a a.b
given e = e.requires (refused-none _ (sym e.is_err.ensures.value ∙ e.if-is_err.false))

nothing : (e : Then-n-m-lt1) → let a = e.args in piece_bits a.a ++ piece_bits a.b ≡ []
nothing e =
    let a = e.args in
    let x : a.a.bits ≡ 0 = omega arith in
    let y : a.b.bits ≡ 0 = omega arith in
    rw (x, y, bits-zero, bits-zero)

pub returns-then-n-m-lt1 : goal.returns-then-n-m-lt1
returns-then-n-m-lt1 c =
    rw (nothing c) (sym (put_bits-nil _ c.args.pos (λ i. omega (arith, c.type_inv.s i))) ∙ bytes-done _ _ _ (refused-none _ (sym c.is_err.ensures.value ∙ c.if-is_err.false)))

pub returns : goal.returns
returns c =
    let a = c.args in
    let d = given (goal.at.returns c).Else-is_err in
    put-behind _ _ _ (piece_bits a.a) (piece_bits a.b) (piece_size a.a) (omega arith) c.put_by_words-2.ensures c.put_by_words-3.ensures
    ∙ bytes-done _ _ _ (refused-none _ (sym c.is_err.ensures.value ∙ c.if-is_err.false))
