use mathlib.Core.List.{◌++◌, append_assoc, append-nil}
use mathlib.Core.Bool.{Bool}
use Prim.Native.Nat.{ℕ, ◌+◌}
use mathlib.Core.Path.{◌≡◌, sym, ap, ◌∙◌}
use native.Mathlib.Omega.{arith}
use lib.ListN.{length}
use Rattle.bits.specs.Bits.{put_bits}
use Rattle.tetra_core.specs.Refusal.{refused-none}
use Rattle.tetra_core.specs.Laws.Windows.{bytes-done}
use Rattle.codec.specs.Piece.{piece_bits}
use Rattle.codec.proofs.Laws.Piece.{pieces_size_lem}
use Rattle.codec.specs.Encoded.{front_with, bits_with, PuttableHeader}
use Rattle.codec.specs.declared.piece.Piece.{Piece}
use Rattle.codec.specs.declared.encoded.EncodedHeader.{EncodedHeader}
use Rattle.codec.proofs.Pieces.{put-behind}
use Rattle.codec.proofs.encoded.put_header.Goals.{After-with_length-front, Else-is_err}
use Rattle.codec.proofs.encoded.put_header.Goals as goal

-- what is known where nothing refuses the header
given : (e : Else-is_err) → let a = e.args in PuttableHeader (length a.s.now) a.pos a.e a.length_ind a.fill_bits
given e = e.requires.1 (refused-none _ (sym e.is_err.ensures.value ∙ e.if-is_err.false))

-- the front is as long with its length
long : (c : After-with_length-front) → c.with_length-front.result.bits ≡ c.args.e.front.bits
long c = ap (λ (q : Piece). q.bits) c.with_length-front.ensures

-- the four pieces, put two by two
by-twos : (e : EncodedHeader) (l : ℕ) (f : Bool)
    → (piece_bits (front_with e l f) ++ piece_bits e.rest) ++ (piece_bits e.tail.first ++ piece_bits e.tail.second) ≡ bits_with e l f
unfolding bits_with
by-twos e l f = rw (append-nil, append_assoc)

pub returns : goal.returns
returns c =
    let a = c.args in
    let z = (refused-none _ (sym c.is_err.ensures.value ∙ c.if-is_err.false)) in
    let f = front_with a.e a.length_ind a.fill_bits in
    put-behind _ a.pos (c.with_length-front.result.bits + a.e.rest.bits) (piece_bits f ++ piece_bits a.e.rest) (piece_bits a.e.tail.first ++ piece_bits a.e.tail.second)
    (pieces_size_lem f a.e.rest ∙ ap (λ n. n + a.e.rest.bits) (sym (long (goal.at.returns c).After-with_length-front))) (omega (arith, long (goal.at.returns c).After-with_length-front, (given (goal.at.returns c).Else-is_err).room))
    (c.put.ensures ∙ sym (bytes-done _ _ _ z) ∙ ap (λ (q : Piece). put_bits a.s.now a.pos (piece_bits q ++ piece_bits a.e.rest)) c.with_length-front.ensures)
    (c.put-2.ensures ∙ sym (bytes-done _ _ _ z))
    ∙ ap (put_bits a.s.now a.pos) (by-twos a.e a.length_ind a.fill_bits)
    ∙ bytes-done _ _ _ z
