-- The laws of specs/Piece.antt.
use Rattle.std.specs.Prelude.{ℕ, ◌+◌, ◌*◌, ◌^◌, ◌≡◌, refl, List, ◌∷◌, ◌++◌, Bool, length}
use Rattle.std.proofs.Math.Arith.{digits_lt}
use Rattle.std.proofs.Common.{lit<, pow-add, length-append}
use Rattle.bits.proofs.Laws.Values.{length-bits_of_nat}
use Rattle.codec.specs.Row.{Cell, cell, row_bits, RowIs}
use Rattle.codec.proofs.Laws.Row.{join_bits}
use Rattle.codec.specs.declared.piece.Piece.{Piece}
use Rattle.codec.specs.Piece.{piece_bits, Holds}

-- a number that stands for a row
pub row_holds : {r : List Cell} {n x : ℕ} → RowIs r n x → Holds (row_bits r) n (record { value = x; bits = n })
row_holds e = record { is = e.bits; size = refl; small = e.small }

-- a flag that is set, and the row behind it
pub flagged-holds : {r : List Cell} {n x : ℕ} → RowIs r n x → Holds (row_bits (cell 1 1 ∷ r)) (1 + n) (record { value = 1 * 2 ^ n + x; bits = 1 + n })
unfolding row_bits
flagged-holds {n = n} {x} e =
    let b = join_bits 1 n 1 x e.small in
    record { is = rw e.bits at b; size = refl; small = rw (pow-add 2 1 n) (digits_lt {q = 1} {m = 2} (lit< tt) e.small) }

-- two pieces that were joined
pub join_holds : {xs ys : List Bool} {n m : ℕ} {p q r : Piece} → Holds xs n p → Holds ys m q → Holds (piece_bits p ++ piece_bits q) (p.bits + q.bits) r
    → Holds (xs ++ ys) (n + m) r
join_holds a b c = rw (a.is, b.is, a.size, b.size) at c

pub piece_size : (p : Piece) → length (piece_bits p) ≡ p.bits
piece_size p = length-bits_of_nat p.bits p.value

pub pieces_size_lem : (p q : Piece) → length (piece_bits p ++ piece_bits q) ≡ p.bits + q.bits
pieces_size_lem p q = rw (length-append, piece_size p, piece_size q)
