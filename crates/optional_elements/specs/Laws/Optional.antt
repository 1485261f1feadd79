-- A flag before its element: read from what is ahead, read back, and written again.
use Rattle.std.specs.Prelude.{ℕ, ◌+◌, ◌<◌, ◌≡◌, List, [], ◌∷◌, ◌++◌, Bool, drop, None, Option, Some}
use Rattle.std.proofs.Common.{append_assoc, append-nil, lit<}
use borrow.Author.Tests.{eqb-true, not-true, not-false, eq-eqb, ne_eqb}
use Rattle.bits.specs.Bits.{bits_of_nat}
use Rattle.codec.specs.declared.Ahead.{Ahead}
use Rattle.codec.specs.Reader.{got, refused, next, Reader, parse}
use Rattle.codec.proofs.Laws.Reader.{parse_bind}
use Rattle.codec.proofs.Laws.Words.{field-alone}
use Rattle.codec.specs.Header.{Word}
use Rattle.codec.proofs.Laws.Header.{alone}
use Rattle.codec.specs.Ahead.{Held}
use Rattle.codec.proofs.Laws.Ahead.{ahead_field-short}
use Rattle.codec.specs.Row.{Cell, cell, row_bits}
use Rattle.codec.proofs.Laws.RoundTrip.{parse_row_lem}
use Rattle.codec.specs.WrittenAgain.{Every}
use Rattle.codec.proofs.Laws.WrittenAgain.{every_bind}
use Rattle.codec.proofs.Laws.Cases.{one_again}
use Rattle.optional_elements.specs.Optional.{optional}

module _ {A : Type 0} (p : Reader A) where
  pub optional-short : {h : List Bool} {b : Ahead} → Held h b → b.left < 1 → parse (optional p) (drop b.at h) b.at ≡ refused 1 b.at
  unfolding optional
  optional-short e l = rw (ahead_field-short 1 e l)

  pub optional_clear : {h : List Bool} {o x : ℕ} → Word h o 1 x → x ≡ 0 → parse (optional p) (drop o h) o ≡ got None (drop (o + 1) h) (o + 1)
  unfolding optional
  optional_clear {x = x} e z = rw (alone e, eq-eqb x 0 z)

  pub optional-set : {h : List Bool} {o x : ℕ} → Word h o 1 x → (x ≡ 0 → ⊥)
      → parse (optional p) (drop o h) o ≡ next (parse p (drop (o + 1) h) (o + 1)) (λ e. got (Some e))
  unfolding optional
  optional-set {x = x} e z = rw (alone e, ne_eqb x 0 z, parse_bind)

  -- a flag that was written clear, and one that was written set
  pub optional-zero : (rest : List Bool) (o : ℕ) → parse (optional p) (row_bits (cell 1 0 ∷ []) ++ rest) o ≡ got None rest (o + 1)
  unfolding optional
  optional-zero rest o = parse_row_lem (optional p) (cell 1 0 ∷ []) 0 rest o (lit< tt, tt)

  pub optional-one : (r : List Cell) (rest : List Bool) (o : ℕ)
      → parse (optional p) (row_bits (cell 1 1 ∷ r) ++ rest) o ≡ next (parse p (row_bits r ++ rest) (o + 1)) (λ e. got (Some e))
  unfolding optional row_bits
  optional-one r rest o = rw (append_assoc, field-alone 1 1 (row_bits r ++ rest) o (lit< tt), parse_bind)

-- what holds of the element with its flag, and of none
pub optional_every : {A : Type 0} (P : A → List Bool → Type 0) (Q : Option A → List Bool → Type 0) (p : Reader A) → Every p P
    → ((a : A) (xs : List Bool) → P a xs → Q (Some a) (bits_of_nat 1 1 ++ xs)) → Q None (bits_of_nat 1 0 ++ []) → Every (optional p) Q
unfolding optional
optional_every P Q p h f z x hx = (
  λ e. rw (one_again x hx (not-true _ e)) (every_bind p _ P (λ b xs. Q b (bits_of_nat 1 1 ++ xs)) h (λ a xs k. rw append-nil (f a xs k))),
  λ e. rw (eqb-true x 0 (not-false _ e)) z,
)
