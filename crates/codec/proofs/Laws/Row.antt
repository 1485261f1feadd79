-- The laws of specs/Row.antt.
use Rattle.std.specs.Prelude.{ℕ, zero, suc, ◌+◌, ◌*◌, ◌^◌, ◌<◌, ◌≡◌, refl, List, [], ◌∷◌, ◌++◌, Bool, length}
use Rattle.std.proofs.Common.{sym, ap, ◌∙◌, append_assoc, append-nil, arith, add-zero, mod-eq_of_lt, length-append, pow-add}
use Rattle.std.proofs.Math.Arith.{digits_lt}
use Rattle.std.proofs.Math.Pow.{high, low}
use Rattle.bits.specs.Bits.{bits_of_nat}
use Rattle.bits.proofs.Laws.Values.{length-bits_of_nat, bits_of_nat-add, bits_of_nat-mod, bits-zero}
use Rattle.codec.specs.Row.{Cell, cell, size, row_bits, glue, row_word, RowFits, RowIs}

pub length_row : (r : List Cell) → length (row_bits r) ≡ size r
unfolding row_bits
length_row [] = refl
length_row (cell w v ∷ r) = simp (length-append, length-bits_of_nat, length_row r)

-- two numbers joined are their bits, one after the other
pub join_bits : (a b x y : ℕ) → y < 2 ^ b → bits_of_nat (a + b) (x * 2 ^ b + y) ≡ bits_of_nat a x ++ bits_of_nat b y
join_bits a b x y h =
    rw (bits_of_nat-add a b (x * 2 ^ b + y), high x b h)
    (ap (λ (l : List Bool). bits_of_nat a x ++ l) (bits_of_nat-mod b (x * 2 ^ b + y) y (low x b h ∙ sym (mod-eq_of_lt h))))

none : (bs : List Bool) → length bs ≡ 0 → bs ≡ []
none [] e = refl
none (b ∷ bs) e = absurd (omega arith)

-- the one number of a row
pub row_is : (r : List Cell) → RowFits r → RowIs r (size r) (row_word r)
unfolding row_bits
row_is [] h = record { bits = bits-zero 0; small = omega arith }
row_is (cell w v ∷ r) h = go (size r) (row_word r) (row_is r h.1) (length_row r)
  where
    go : (m y : ℕ) → RowIs r m y → length (row_bits r) ≡ m → RowIs (cell w v ∷ r) (w + m) (glue m v y)
    go zero y e l = record { bits = rw (add-zero, none (row_bits r) l, append-nil); small = rw add-zero h.0 }
    go (suc m) y e l =
        record {
          bits = join_bits w (suc m) v y e.small ∙ ap (λ (t : List Bool). bits_of_nat w v ++ t) e.bits;
          small = rw (pow-add 2 w (suc m)) (digits_lt h.0 e.small);
        }

-- two rows, one after the other, as one number
pub join_rows : {r q : List Cell} {n m x y : ℕ} → RowIs r n x → RowIs q m y → bits_of_nat (n + m) (x * 2 ^ m + y) ≡ row_bits r ++ row_bits q
join_rows {n = n} {m} {x} {y} e f = join_bits n m x y f.small ∙ rw (e.bits, f.bits)

-- two rows, one after the other, are one row
pub rows_append : (r q : List Cell) → row_bits (r ++ q) ≡ row_bits r ++ row_bits q
unfolding row_bits
rows_append [] q = refl
rows_append (cell w v ∷ r) q = rw (rows_append r q, append_assoc)

pub rows_joined : {r q : List Cell} {n m x y : ℕ} → RowIs r n x → RowIs q m y → RowIs (r ++ q) (n + m) (x * 2 ^ m + y)
rows_joined {r} {q} {n} {m} e f =
    record { bits = join_rows e f ∙ sym (rows_append r q); small = rw (pow-add 2 n m) (digits_lt e.small f.small) }

pub one_cell : (w v : ℕ) → row_bits (cell w v ∷ []) ≡ bits_of_nat w v
unfolding row_bits
one_cell w v = append-nil (bits_of_nat w v)
