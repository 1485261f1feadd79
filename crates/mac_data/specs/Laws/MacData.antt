-- A MAC-DATA that is written has its length and is read back, and one that was read is written again.
use Rattle.std.specs.Prelude.{ℕ, zero, suc, ◌+◌, ◌-◌, ◌<◌, ◌≡◌, refl, List, [], ◌∷◌, ◌++◌, Bool, true, false, length, take, get_or, Ok}
use Rattle.std.proofs.Common.{◌∙◌, append_assoc, append-nil, arith, zero-add, length-append, lit<, leb-true, le-leb, eqb-true}
use Rattle.std.proofs.Math.Nat.{sub-zero}
use Rattle.std.proofs.lemmas.List.{get_or_at}
use Rattle.bits.specs.Bits.{odd, bits_of_nat, bits_at, Bytes}
use Rattle.tetra_core.specs.BitBuffer.{moved}
use Rattle.tetra_core.specs.Refusal.{passed}
use Rattle.bits.proofs.Laws.Values.{digit_lt}
use Rattle.tetra_core.specs.declared.bitbuffer.Cursor.{Cursor}
use Rattle.codec.specs.Reader.{got, parse}
use Rattle.codec.specs.Header.{within}
use Rattle.codec.specs.Row.{size, row_bits, RowFits}
use Rattle.codec.proofs.Laws.Row.{rows_append}
use Rattle.codec.specs.Write.{refusal_at}
use Rattle.codec.proofs.Laws.Write.{free}
use Rattle.codec.proofs.Laws.RoundTrip.{parse_row_lem, written_back}
use Rattle.codec.specs.WrittenAgain.{Every}
use Rattle.codec.proofs.Laws.WrittenAgain.{every_read, read_at, read-bits, written-again}
use Rattle.codec.proofs.Laws.Cases.{flag-back, flag-again, one_again}
use Rattle.tetra_fields.specs.UplinkAddress.{encryption_refusal}
use Rattle.tetra_fields.specs.UplinkHead.{uplink_row}
use Rattle.tetra_fields.specs.Laws.ReservationRequirement.{reservation_back, reservation_again}
use Rattle.tetra_fields.specs.Laws.UplinkHead.{allowed, allowed_test, uplink_length, uplink_back, uplink_every}
use Rattle.mac_data.specs.MacData.{option_size, head_of, mac_data_of, read_request, read_option, read_mac_data, mac_data_at, option_refusal, mac_data_refusal, option_row, mac_data_row, mac_data_size, mac_data_write, mac_data_written, normal, reserved_bit}
use Rattle.mac_data.specs.declared.mac_data.MacDataOption.{MacDataOption}
use Rattle.mac_data.specs.declared.mac_data.MacDataOption.TheVariants.{LengthInd, CapacityRequest}
use Rattle.mac_data.specs.declared.mac_data.MacData.{MacData}

pub option_fits : (o : MacDataOption) → option_refusal o ≡ 0 → RowFits (option_row o)
option_fits (LengthInd n) e = let h = leb-true n 63 (passed _ 2 e) in (lit< tt, (omega arith, tt))
option_fits (CapacityRequest f q) e = (lit< tt, (digit_lt f, ((reservation_back q).0, (lit< tt, tt))))

sized : (o : MacDataOption) → size (option_row o) ≡ option_size
sized (LengthInd n) = refl
sized (CapacityRequest f q) = refl

-- the length of a MAC-DATA
pub mac_data_length : (h : MacData) → length (row_bits (mac_data_row h)) ≡ mac_data_size h
unfolding mac_data_row mac_data_size
mac_data_length h = uplink_length 2 (head_of h) (option_row h.option) ∙ rw (sized h.option)

-- ---- what was written is read back, up to the kind of an SSI, whatever follows its bits

option_back : (a : MacDataOption) → option_refusal a ≡ 0 → (rest : List Bool) (o : ℕ) → parse read_option (row_bits (option_row a) ++ rest) o ≡ got a rest (o + size (option_row a))
unfolding read_option read_request
option_back (LengthInd n) e rest o = rw (parse_row_lem read_option (option_row (LengthInd n)) 0 rest o (option_fits (LengthInd n) e))
option_back (CapacityRequest f q) e rest o =
    rw (parse_row_lem read_option (option_row (CapacityRequest f q)) 0 rest o (option_fits (CapacityRequest f q) e), flag-back f, (reservation_back q).1)

pub mac_data_back : (h : MacData) → mac_data_refusal h ≡ 0 → (rest : List Bool) (o : ℕ)
    → parse read_mac_data (row_bits (mac_data_row h) ++ rest) o ≡ got (normal h) rest (o + mac_data_size h)
unfolding read_mac_data mac_data_row mac_data_refusal mac_data_size
mac_data_back h e =
    let a = allowed _ _ _ e in
    rw (sized h.option) at (uplink_back 2 read_option mac_data_of (head_of h) (option_row h.option) a.address (option_back h.option a.fields))

-- in bytes: what to_bitbuf wrote, from_bitbuf reads at the same cursor
pub mac_data_written-back : (s : List ℕ) (c : Cursor) (h : MacData) → refusal_at (length s) c (mac_data_refusal h) (mac_data_size h) ≡ 0
    → mac_data_at (mac_data_written s c h) c ≡ record { cursor = moved c (mac_data_size h); answer = Ok (normal h) }
unfolding mac_data_at
mac_data_written-back s c h e =
    written_back read_mac_data s c (mac_data_refusal h) _ (mac_data_length h)
    (λ rest. mac_data_back h (free _ _ _ _ e).value rest 0 ∙ rw zero-add) e

-- ---- what was read is written again, where its reserved bit is 0

last_bit : (xs : List Bool) (b : ℕ) → b < 2 → get_or (xs ++ bits_of_nat 1 b) (length (xs ++ bits_of_nat 1 b) - 1) false ≡ false → b ≡ 0
unfolding bits_of_nat odd
last_bit xs zero h e = refl
last_bit xs (suc zero) h e =
    absurd (let l : length xs ≡ length (xs ++ (true ∷ [])) - 1 = omega (arith, length-append xs (true ∷ [])) in
    let z = rw (get_or_at xs true [] false _ l) at e in let o : ◌≡◌ {A = ℕ} 0 1 = cc in omega arith)
last_bit xs (suc (suc b)) h e = absurd (omega arith)

option_every : Every read_option (λ a xs. (option_refusal a ≡ 0) × ((ys : List Bool) → reserved_bit a (ys ++ xs) ≡ false → row_bits (option_row a) ≡ xs))
unfolding read_option read_request row_bits
option_every selector ls = (
  λ e length ll. (rw (le-leb length 63 (omega arith)), λ ys _. rw (eqb-true selector 0 e)),
  λ e frag lf req lr reserved lv. (
    refl,
    λ ys z.
        let xs = ys ++ (bits_of_nat 1 selector ++ (bits_of_nat 1 frag ++ bits_of_nat 4 req)) in
        let w : ys ++ (bits_of_nat 1 selector ++ (bits_of_nat 1 frag ++ (bits_of_nat 4 req ++ (bits_of_nat 1 reserved ++ [])))) ≡ xs ++ bits_of_nat 1 reserved = simp (append_assoc, append-nil) in
        rw (one_again selector ls e, flag-again frag lf, reservation_again req lr, last_bit xs reserved lv (rw w at z)),
  ),
)

-- a header that was read is refused for its encryption alone, and its bits are those that were read
pub mac_data_again : (bs : List Bool) {h : MacData} {r : List Bool} {n : ℕ} → parse read_mac_data bs 0 ≡ got h r n
    → (encryption_refusal h.encrypted h.addr ≡ 0 → mac_data_refusal h ≡ 0) × (reserved_bit h.option (take n bs) ≡ false → row_bits (mac_data_row h) ≡ take n bs)
unfolding read_mac_data mac_data_row mac_data_refusal
mac_data_again bs e =
    rw sub-zero at (every_read read_mac_data
    (λ h xs. (encryption_refusal h.encrypted h.addr ≡ 0 → mac_data_refusal h ≡ 0) × (reserved_bit h.option xs ≡ false → row_bits (mac_data_row h) ≡ xs))
    (uplink_every 2 read_option mac_data_of _ _ option_every
    (λ head a xs fits k. (
      λ z. allowed_test _ _ _ (record { encryption = z; address = fits; fields = k.0 }),
      λ z. rw (rows_append, k.1 (row_bits (uplink_row 2 head)) z),
    ))) bs 0 e)

-- in bytes: what from_bitbuf read, to_bitbuf writes at the same cursor, and no byte changes
pub mac_data_written-again : (s : List ℕ) (c d : Cursor) (h : MacData) → Bytes s → mac_data_at s c ≡ record { cursor = d; answer = Ok h }
    → encryption_refusal h.encrypted h.addr ≡ 0 → reserved_bit h.option (bits_at s c.pos (d.pos - c.pos)) ≡ false
    → (mac_data_write s c h ≡ record { cursor = d; answer = (Ok tt) }) × (mac_data_written s c h ≡ s)
unfolding mac_data_at
mac_data_written-again s c d h b e f z =
    let r = read_at read_mac_data s c d h e in
    let a = mac_data_again (within s c) r.seen in
    written-again r (row_bits (mac_data_row h)) b (a.1 (rw (← read-bits r) at z)) (a.0 f)
