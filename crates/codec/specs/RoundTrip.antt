-- What was written is read back: a reader that meets the cells of a row, width for width, gets their values.
use Rattle.std.specs.Prelude.{ℕ, ◌+◌, List, [], ◌∷◌, ◌++◌, Bool, cond, eqb}
use Rattle.codec.specs.Reader.{Out, got, refused, Reader, done, refuse, field, here, choose, parse}
use Rattle.codec.specs.Words.{past}
use Rattle.codec.specs.Row.{Cell, cell, row_bits}

abbrev pub on_row : {A : Type 0} → List Cell → A → (ℕ → ℕ → List Cell → A) → A
on_row [] a f = a
on_row (cell w v ∷ r) a f = f w v r

-- the bits of a row, and the rest
abbrev pub row_then : List Cell → List Bool → List Bool
row_then [] rest = rest
row_then (c ∷ r) rest = row_bits (c ∷ r) ++ rest

-- what a reader gives where a row stands in front, u bits after the offset o: it computes to what is left to be read behind the row
abbrev pub parse_row : {A : Type 0} → Reader A → List Cell → ℕ → List Bool → ℕ → Out A
parse_row (done a) r u rest o = got a (row_then r rest) (past o u)
parse_row (refuse j at) r u rest o = refused j at
parse_row (here k) r u rest o = parse_row (k (past o u)) r u rest o
parse_row (choose b p q) r u rest o = cond b (parse_row p r u rest o) (parse_row q r u rest o)
parse_row (field w k) r u rest o =
    on_row r (parse (field w k) rest (past o u))
    (λ v x q. cond (eqb w v) (parse_row (k x) q (u + w) rest o) (parse (field w k) (row_then r rest) (past o u)))
