-- A header on its way out, of its two parts.
use Rattle.std.specs.Prelude.{ℕ, ◌+◌, ◌≡◌, refl, [], ◌∷◌, ◌++◌, true, not, eqb, Result, Ok}
use Rattle.std.proofs.Common.{sym, ◌∙◌, append-nil, arith}
use Rattle.std.proofs.Math.Nat.{add-zero}
use Rattle.bits.specs.Bits.{digit, bits_of_nat}
use Rattle.bits.proofs.Laws.Values.{bits-zero}
use Rattle.tetra_core.specs.Refusal.{refused_by, unless, first, first-parts}
use Rattle.tetra_core.specs.declared.refusal.Reason.{Reason}
use Rattle.codec.specs.Row.{row_bits}
use Rattle.codec.specs.Encoded.{no_tail, whole_of, Spaced}
use Rattle.codec.proofs.Laws.Encoded.{no_tail_encodes, whole-encodes, piece_encodes}
use Rattle.codec.specs.declared.encoded.Encoded.{Encoded}
use Rattle.codec.specs.Width.{too_wide}
use Rattle.mac_resource.specs.Address.{type_of, is_null, addr_type_number, address_len, address_row}
use Rattle.mac_resource.specs.Fixed.{fixed_row}
use Rattle.mac_resource.specs.MacResource.{null_refusal, fields_refusal, alone_refusal, null_added, add_refusal, mac_resource_refusal, front_bits, header_len, rest_len, places, EncodesFront, EncodesRest, EncodesResource}
use Rattle.mac_resource.specs.Laws.MacResource.{fields_apart, header_apart}
use Rattle.mac_resource.specs.declared.mac_resource.MacResource.{MacResource}

module _ (h : MacResource) where
  spaced : Spaced places (front_bits h)
  unfolding front_bits fixed_row row_bits bits_of_nat
  spaced = record {
    before = bits_of_nat 2 0;
    between = bits_of_nat 1 h.pos_of_grant ++ (bits_of_nat 2 h.encryption_mode ++ bits_of_nat 1 (digit h.random_access_flag));
    behind = bits_of_nat 3 (addr_type_number (type_of h.addr)) ++ row_bits (address_row h.addr);
    is = λ l f. refl;
    fill = refl;
    len = refl;
  }

  size : 16 + address_len (type_of h.addr) + rest_len h + 0 ≡ header_len h
  unfolding header_len
  size = add-zero _

  module _ (r : Result (Unit {0}) Reason) (a b : Encoded) where
    -- r is judged first, and j is the length's own number, in its place among the fields
    encodes : (k j : ℕ) → refused_by r ≡ k → EncodesFront j h a → EncodesRest h b
        → EncodesResource (first (k ∷ fields_refusal h j ∷ [])) h (whole_of r a b no_tail places)
    encodes k j e x y =
        whole-encodes a b spaced x y (no_tail_encodes _) r (rw (e, fields_apart h j)) size (omega arith) (λ l f. append-nil _ ∙ sym (header_apart h l f))

    pub alone-encodes : refused_by r ≡ alone_refusal h → EncodesFront (too_wide 6 h.length_ind) h a → EncodesRest h b
        → EncodesResource (mac_resource_refusal h) h (whole_of r a b no_tail places)
    unfolding alone_refusal mac_resource_refusal
    alone-encodes e x y =
        rw (first-parts (unless (not (eqb h.length_ind 0)) 8 ∷ null_refusal h ∷ []) (fields_refusal h (too_wide 6 h.length_ind) ∷ [])) (encodes _ _ e x y)

    pub add-encodes : refused_by r ≡ null_added h → EncodesFront 0 h a → EncodesRest h b → EncodesResource (add_refusal h) h (whole_of r a b no_tail places)
    unfolding add_refusal
    add-encodes e x y = encodes _ _ e x y

-- "a null header has no elements", and "Null elements go unchecked"
pub null-encodes : (h : MacResource) → is_null h.addr ≡ true → EncodesRest h (record { judged = Ok tt; piece = record { value = 0; bits = 0 } })
null-encodes h n = rw n (piece_encodes (Ok tt) refl (omega arith) (record { is = bits-zero 0; size = refl; small = omega arith }))
