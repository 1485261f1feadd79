-- The laws of specs/RoundTrip.antt.
use Rattle.std.specs.Prelude.{Ok, ℕ, ◌+◌, ◌-◌, ◌*◌, ◌≤◌, ◌≡◌, refl, List, [], ◌∷◌, ◌++◌, Bool, true, false, eqb, length}
use Rattle.std.proofs.Common.{ap, ◌∙◌, append_assoc, arith, add_assoc, eqb-true}
use Rattle.bits.specs.Bits.{bits_at, put_bits}
use Rattle.tetra_core.specs.BitBuffer.{remaining, moved}
use Rattle.bits.proofs.Laws.Reads.{bits_at_add}
use Rattle.bits.proofs.Laws.Writes.{length-put_bits, bits_at_put_bits, bits_at_after}
use Rattle.tetra_core.specs.Laws.Windows.{Good, good_test}
use Rattle.tetra_core.specs.declared.bitbuffer.Cursor.{Cursor}
use Rattle.codec.specs.Reader.{got, Reader, done, refuse, field, here, choose, parse}
use Rattle.codec.specs.Words.{past}
use Rattle.codec.proofs.Laws.Words.{past_is, field-alone}
use Rattle.codec.specs.Header.{within, at_cursor}
use Rattle.codec.specs.Write.{refusal_at, written_at}
use Rattle.codec.proofs.Laws.Write.{free}
use Rattle.codec.specs.Row.{Cell, cell, row_bits, RowFits}
use Rattle.codec.specs.RoundTrip.{row_then, parse_row}

row_then_lem : (r : List Cell) (rest : List Bool) → row_bits r ++ rest ≡ row_then r rest
unfolding row_bits
row_then_lem [] rest = refl
row_then_lem (c ∷ r) rest = refl

pub parse_row_lem : {A : Type 0} (p : Reader A) (r : List Cell) (u : ℕ) (rest : List Bool) (o : ℕ) → RowFits r → parse p (row_bits r ++ rest) (past o u) ≡ parse_row p r u rest o
unfolding row_bits
parse_row_lem (done a) r u rest o h = rw row_then_lem
parse_row_lem (refuse j at) r u rest o h = refl
parse_row_lem (here k) r u rest o h = parse_row_lem (k (past o u)) r u rest o h
parse_row_lem (choose true p q) r u rest o h = parse_row_lem p r u rest o h
parse_row_lem (choose false p q) r u rest o h = parse_row_lem q r u rest o h
parse_row_lem {A} (field w k) r u rest o h = go r h (λ x q z. parse_row_lem (k x) q z rest o)
  where
    go : (r : List Cell) → RowFits r → ((x : ℕ) (q : List Cell) (z : ℕ) → RowFits q → parse (k x) (row_bits q ++ rest) (past o z) ≡ parse_row (k x) q z rest o)
        → parse (field w k) (row_bits r ++ rest) (past o u) ≡ parse_row (field w k) r u rest o
    go [] h f = refl
    go (cell v x ∷ q) h f = at (eqb w v) refl
      where
        at : (b : Bool) → eqb w v ≡ b → parse (field w k) (row_bits (cell v x ∷ q) ++ rest) (past o u) ≡ parse_row (field w k) (cell v x ∷ q) u rest o
        at true e =
            let same = eqb-true w v e in
            let step : past o u + w ≡ past o (u + w) = rw (past_is o u, past_is o (u + w), add_assoc) in
            rw (e, append_assoc, ← same, field-alone w x (row_bits q ++ rest) (past o u) (rw same h.0), step) (f x q (u + w) h.1)
        at false e = rw e

-- ---- in bytes: what a call wrote at a cursor is read there, value and cursor, whatever the other bits are

within-put : (s : List ℕ) (c : Cursor) (xs : List Bool) → Good (length s) c → c.pos + length xs ≤ c.end
    → within (put_bits s c.pos xs) c ≡ xs ++ bits_at s (c.pos + length xs) (remaining c - length xs)
unfolding within
within-put s c xs g h =
    ap (bits_at (put_bits s c.pos xs) c.pos) (parts (remaining c) (length xs) (omega arith))
    ∙ rw (bits_at_add, bits_at_put_bits s c.pos xs room, bits_at_after s c.pos xs (c.pos + length xs) (remaining c - length xs) room (omega arith))
  where
    room : c.pos + length xs ≤ 8 * length s
    room = omega (arith, g)

    parts : (n m : ℕ) → m ≤ n → n ≡ m + (n - m)
    parts n m l = omega arith

pub written_back : {A : Type 0} (p : Reader A) (s : List ℕ) (c : Cursor) (j : ℕ) (xs : List Bool) {v : A} {n : ℕ}
    → length xs ≡ n → ((rest : List Bool) → parse p (xs ++ rest) 0 ≡ got v rest n) → refusal_at (length s) c j n ≡ 0
    → at_cursor p (written_at s c j xs) c ≡ record { cursor = moved c n; answer = Ok v }
unfolding written_at
written_back p s c j xs {n = n} l back e =
    let f = free (length s) c j n e in
    rw (l, e, length-put_bits s c.pos xs, good_test (length s) c f.good, within-put s c xs f.good (rw l f.room), back _)
