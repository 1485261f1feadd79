-- What a MAC-ACCESS and a MAC-DATA share: their heads written and read back, and read and written again, with any fields behind them.
use Prim.Native.Nat.{ℕ, ◌+◌, ◌*◌, ◌^◌, ◌<◌}
use Rattle.std.specs.Prelude.{◌≡◌, Bool, length}
use Rattle.std.proofs.Common.{sym, arith, zero-add, zero-mul, length-append, pow-add, pow_pos, eqb-true, lt-ltb}
use mathlib.Core.List.{List, [], ◌∷◌, ◌++◌, append_assoc, append-nil}
use Rattle.std.proofs.Math.Nat.{add_assoc}
use Rattle.std.proofs.Math.Arith.{digits_lt}
use Rattle.std.proofs.lemmas.Bool.{not-false}
use Rattle.tetra_core.specs.Address.{uplink_address_type}
use Rattle.bits.specs.Bits.{digit, bits_of_nat}
use Rattle.tetra_core.specs.Refusal.{first, first-none}
use Rattle.bits.proofs.Laws.Values.{digit_lt}
use Rattle.tetra_core.specs.declared.address.UplinkAddress.{UplinkAddress}
use Rattle.codec.specs.Reader.{got, Reader, done, parse, ◌>>=◌}
use Rattle.codec.proofs.Laws.Reader.{parse_bind}
use Rattle.codec.proofs.Laws.Words.{field-alone}
use Rattle.codec.specs.Row.{Cell, cell, size, row_bits, RowFits, RowIs}
use Rattle.codec.proofs.Laws.Row.{length_row, join_bits, row_is, rows_append, rows_joined, one_cell}
use Rattle.codec.proofs.Laws.RoundTrip.{parse_row_lem}
use Rattle.codec.specs.WrittenAgain.{Every}
use Rattle.codec.proofs.Laws.WrittenAgain.{every_bind}
use Rattle.codec.proofs.Laws.Cases.{flag-back, flag-again}
use Rattle.tetra_fields.specs.UplinkAddress.{uplink_width, uplink_number, read_uplink_address, encryption_refusal, uplink_address_refusal, uplink_address_row}
use Rattle.tetra_fields.specs.UplinkHead.{read_uplink_body, read_uplink_head, uplink_refusal, uplink_body_row, uplink_row, body_size, uplink_size, normal_head}
use Rattle.tetra_fields.specs.Laws.UplinkAddress.{type_lt, number_fits, address-back, type-again, number-again}
use Rattle.tetra_fields.specs.declared.fields.uplink_head.UplinkHead.{UplinkHead}

-- ---- what refuses a header

pub record Allowed (encrypted : Bool) (a : UplinkAddress) (option : ℕ) : Type 0 where
  pub encryption : encryption_refusal encrypted a ≡ 0
  pub address : uplink_address_refusal a ≡ 0
  pub fields : option ≡ 0

pub allowed : (encrypted : Bool) (a : UplinkAddress) (option : ℕ) → uplink_refusal encrypted a option ≡ 0 → Allowed encrypted a option
unfolding uplink_refusal
allowed encrypted a option e =
    let x = first-none (encryption_refusal encrypted a) _ e in
    let y = first-none (uplink_address_refusal a) _ x.1 in
    record { encryption = x.0; address = y.0; fields = (first-none option [] y.1).0 }

pub allowed_test : (encrypted : Bool) (a : UplinkAddress) (option : ℕ) → Allowed encrypted a option → uplink_refusal encrypted a option ≡ 0
unfolding uplink_refusal first
allowed_test encrypted a option h = rw (h.encryption, h.address, h.fields)

-- ---- the number and the bits that are written

-- the three fields of 1, 1 and 2 bits, and the address
abbrev head_cells : UplinkHead → List Cell
head_cells h = cell 1 (digit h.fill_bits) ∷ cell 1 (digit h.encrypted) ∷ cell 2 (uplink_address_type h.addr) ∷ []

head_fits : (h : UplinkHead) → RowFits (head_cells h)
head_fits h = (digit_lt h.fill_bits, (digit_lt h.encrypted, (type_lt h.addr, tt)))

pub body_word : (h : UplinkHead) → uplink_address_refusal h.addr ≡ 0
    → RowIs (uplink_body_row h) (body_size h.addr)
    ((digit h.fill_bits * 8 + (digit h.encrypted * 4 + uplink_address_type h.addr)) * 2 ^ uplink_width (uplink_address_type h.addr) + uplink_number h.addr)
unfolding uplink_body_row uplink_address_row
body_word h e =
    rows_joined {q = cell _ _ ∷ []} (row_is (head_cells h) (head_fits h)) (record { bits = sym (one_cell _ _); small = number_fits h.addr e })

-- the head, whose PDU type is 0 and adds nothing to its number x, and the fields behind it
pub uplink_joined : (w : ℕ) (h : UplinkHead) {q : List Cell} {m x y : ℕ} → RowIs (uplink_body_row h) (body_size h.addr) x → RowIs q m y
    → RowIs (uplink_row w h ++ q) (uplink_size w h.addr + m) (x * 2 ^ m + y)
unfolding uplink_row row_bits
uplink_joined w h {x = x} e f = rows_joined {r = cell w 0 ∷ uplink_body_row h} (record { bits = bits; small = small }) f
  where
    n : ℕ
    n = body_size h.addr

    front : 0 * 2 ^ n + x ≡ x
    front = rw (zero-mul, zero-add)

    bits : bits_of_nat (w + n) x ≡ row_bits (cell w 0 ∷ uplink_body_row h)
    bits = rw (front, e.bits) at (join_bits w n 0 x e.small)

    small : x < 2 ^ (w + n)
    small = rw front at (rw (← pow-add 2 w n) at (digits_lt (pow_pos w) e.small))

pub uplink_length : (w : ℕ) (h : UplinkHead) (q : List Cell) → length (row_bits (uplink_row w h ++ q)) ≡ uplink_size w h.addr + size q
unfolding uplink_row uplink_body_row uplink_address_row
uplink_length w h q =
    rw (rows_append (uplink_row w h) q, length-append, length_row q, length_row (uplink_row w h)) (omega arith)

-- ---- what was written is read back, up to the kind of an SSI

module _ (h : UplinkHead) (e : uplink_address_refusal h.addr ≡ 0) where
  body_back : (rest : List Bool) (o : ℕ) → parse read_uplink_body (row_bits (uplink_body_row h) ++ rest) o ≡ got (normal_head h) rest (o + body_size h.addr)
  unfolding read_uplink_body read_uplink_address uplink_body_row uplink_address_row
  body_back rest o =
      rw (
        rows_append (head_cells h) (cell width number ∷ []),
        append_assoc,
        parse_row_lem read_uplink_body (head_cells h) 0 (row_bits (cell width number ∷ []) ++ rest) o (head_fits h),
        one_cell width number,
        field-alone width number rest (o + 4) (number_fits h.addr e),
        address-back h.addr,
        flag-back h.fill_bits,
        flag-back h.encrypted,
        add_assoc,
      )
    where
      width : ℕ
      width = uplink_width (uplink_address_type h.addr)

      number : ℕ
      number = uplink_number h.addr

  head_back : (w : ℕ) (rest : List Bool) (o : ℕ)
      → parse (read_uplink_head w) (row_bits (uplink_row w h) ++ rest) o ≡ got (normal_head h) rest (o + uplink_size w h.addr)
  unfolding read_uplink_head uplink_row row_bits
  head_back w rest o = rw (append_assoc, field-alone w 0 (row_bits (uplink_body_row h) ++ rest) o (pow_pos w), body_back rest (o + w), add_assoc)

-- make is what puts the head and the value of the fields behind it together
pub uplink_back : {A B : Type 0} (w : ℕ) (p : Reader A) (make : UplinkHead → A → B) (h : UplinkHead) (q : List Cell) {v : A} → uplink_address_refusal h.addr ≡ 0
    → ((rest : List Bool) (o : ℕ) → parse p (row_bits q ++ rest) o ≡ got v rest (o + size q)) → (rest : List Bool) (o : ℕ)
    → parse (read_uplink_head w >>= (λ a. p >>= (λ b. done (make a b)))) (row_bits (uplink_row w h ++ q) ++ rest) o
    ≡ got (make (normal_head h) v) rest (o + (uplink_size w h.addr + size q))
uplink_back w p make h q e back rest o =
    rw (rows_append (uplink_row w h) q, append_assoc, parse_bind, head_back h e w (row_bits q ++ rest) o, parse_bind, back rest (o + uplink_size w h.addr), add_assoc)

-- ---- what was read is written again

-- a head's address is not refused, and its bits are xs
abbrev HeadAgain : ℕ → UplinkHead → List Bool → Type 0
HeadAgain w h xs = (uplink_address_refusal h.addr ≡ 0) × (row_bits (uplink_row w h) ≡ xs)

head_every : (w : ℕ) → Every (read_uplink_head w) (HeadAgain w)
unfolding read_uplink_head read_uplink_body read_uplink_address uplink_row uplink_body_row uplink_address_row uplink_address_refusal row_bits
head_every w o type lt = (
  λ _. tt,
  λ e fill lf encrypted le kind lk v lv. (
    rw (type-again kind v lk, number-again kind v, lt-ltb v (2 ^ uplink_width kind) lv),
    rw (eqb-true type 0 (not-false _ e), flag-again fill lf, flag-again encrypted le, type-again kind v lk, number-again kind v),
  ),
)

pub uplink_every : {A B : Type 0} (w : ℕ) (p : Reader A) (make : UplinkHead → A → B) (Q : A → List Bool → Type 0) (P : B → List Bool → Type 0) → Every p Q
    → ((h : UplinkHead) (v : A) (xs : List Bool) → uplink_address_refusal h.addr ≡ 0 → Q v xs → P (make h v) (row_bits (uplink_row w h) ++ xs))
    → Every (read_uplink_head w >>= (λ a. p >>= (λ b. done (make a b)))) P
uplink_every w p make Q P e f =
    every_bind (read_uplink_head w) _ (HeadAgain w) P (head_every w)
    (λ h xs k. every_bind p _ Q (λ b ys. P b (xs ++ ys)) e (λ v ys z. rw (append-nil, ← k.1) (f h v ys k.0 z)))
