-- A MAC-ACCESS that is written has its length and is read back, and one that was read is written again.
use Rattle.std.specs.Prelude.{ℕ, ◌+◌, ◌≡◌, refl, List, ◌++◌, Bool, length, take, Ok}
use Rattle.std.proofs.Common.{◌∙◌, arith, zero-add, lit<, leb-true, le-leb, eqb-true}
use Rattle.std.proofs.Math.Nat.{sub-zero}
use Rattle.bits.specs.Bits.{Bytes}
use Rattle.tetra_core.specs.BitBuffer.{moved}
use Rattle.tetra_core.specs.Refusal.{passed}
use Rattle.bits.proofs.Laws.Values.{digit_lt}
use Rattle.tetra_core.specs.declared.bitbuffer.Cursor.{Cursor}
use Rattle.codec.specs.Reader.{got, parse}
use Rattle.codec.specs.Header.{within}
use Rattle.codec.specs.Row.{size, row_bits, RowFits}
use Rattle.codec.proofs.Laws.Row.{rows_append}
use Rattle.codec.specs.Write.{refusal_at}
use Rattle.codec.proofs.Laws.Write.{free}
use Rattle.codec.proofs.Laws.RoundTrip.{parse_row_lem, written_back}
use Rattle.codec.specs.WrittenAgain.{Every}
use Rattle.codec.proofs.Laws.WrittenAgain.{every_read, read_at, written-again}
use Rattle.codec.proofs.Laws.Cases.{flag-back, flag-again, one_again}
use Rattle.tetra_fields.specs.UplinkAddress.{encryption_refusal}
use Rattle.tetra_fields.specs.Laws.ReservationRequirement.{reservation_back, reservation_again}
use Rattle.tetra_fields.specs.Laws.UplinkHead.{allowed, allowed_test, uplink_length, uplink_back, uplink_every}
use Rattle.mac_access.specs.MacAccess.{head_of, mac_access_of, read_request, read_chosen, read_option, read_mac_access, mac_access_at, option_refusal, mac_access_refusal, option_row, mac_access_row, mac_access_size, mac_access_write, mac_access_written, normal}
use Rattle.mac_access.specs.declared.mac_access.MacAccessOption.{MacAccessOption}
use Rattle.mac_access.specs.declared.mac_access.MacAccessOption.TheVariants.{Without, LengthInd, CapacityRequest}
use Rattle.mac_access.specs.declared.mac_access.MacAccess.{MacAccess}

pub option_fits : (o : MacAccessOption) → option_refusal o ≡ 0 → RowFits (option_row o)
option_fits Without e = (lit< tt, tt)
option_fits (LengthInd n) e = let h = leb-true n 31 (passed _ 2 e) in (lit< tt, (lit< tt, (omega arith, tt)))
option_fits (CapacityRequest f q) e = (lit< tt, (lit< tt, (digit_lt f, ((reservation_back q).0, tt))))

-- the length of a MAC-ACCESS
pub mac_access_length : (h : MacAccess) → length (row_bits (mac_access_row h)) ≡ mac_access_size h
unfolding mac_access_row mac_access_size
mac_access_length h = uplink_length 1 (head_of h) (option_row h.option)

-- ---- what was written is read back, up to the kind of an SSI, whatever follows its bits

option_back : (a : MacAccessOption) → option_refusal a ≡ 0 → (rest : List Bool) (o : ℕ) → parse read_option (row_bits (option_row a) ++ rest) o ≡ got a rest (o + size (option_row a))
unfolding read_option read_chosen read_request
option_back Without e rest o = rw (parse_row_lem read_option (option_row Without) 0 rest o (option_fits Without e))
option_back (LengthInd n) e rest o = rw (parse_row_lem read_option (option_row (LengthInd n)) 0 rest o (option_fits (LengthInd n) e))
option_back (CapacityRequest f q) e rest o =
    rw (parse_row_lem read_option (option_row (CapacityRequest f q)) 0 rest o (option_fits (CapacityRequest f q) e), flag-back f, (reservation_back q).1)

pub mac_access_back : (h : MacAccess) → mac_access_refusal h ≡ 0 → (rest : List Bool) (o : ℕ)
    → parse read_mac_access (row_bits (mac_access_row h) ++ rest) o ≡ got (normal h) rest (o + mac_access_size h)
unfolding read_mac_access mac_access_row mac_access_refusal mac_access_size
mac_access_back h e =
    let a = allowed _ _ _ e in
    uplink_back 1 read_option mac_access_of (head_of h) (option_row h.option) a.address (option_back h.option a.fields)

-- in bytes: what to_bitbuf wrote, from_bitbuf reads at the same cursor
pub mac_access_written-back : (s : List ℕ) (c : Cursor) (h : MacAccess) → refusal_at (length s) c (mac_access_refusal h) (mac_access_size h) ≡ 0
    → mac_access_at (mac_access_written s c h) c ≡ record { cursor = moved c (mac_access_size h); answer = Ok (normal h) }
unfolding mac_access_at
mac_access_written-back s c h e =
    written_back read_mac_access s c (mac_access_refusal h) _ (mac_access_length h)
    (λ rest. mac_access_back h (free _ _ _ _ e).value rest 0 ∙ rw zero-add) e

-- ---- what was read is written again

option_every : Every read_option (λ a xs. (option_refusal a ≡ 0) × (row_bits (option_row a) ≡ xs))
unfolding read_option read_chosen read_request row_bits
option_every option lo = (
  λ e. (refl, rw (eqb-true option 0 e)),
  λ e selector ls. (
    λ f length ll. (rw (le-leb length 31 (omega arith)), rw (one_again option lo e, eqb-true selector 0 f)),
    λ f frag lf req lr. (refl, rw (one_again option lo e, one_again selector ls f, flag-again frag lf, reservation_again req lr)),
  ),
)

-- a header that was read is refused for its encryption alone, and its bits are those that were read
pub mac_access_again : (bs : List Bool) {h : MacAccess} {r : List Bool} {n : ℕ} → parse read_mac_access bs 0 ≡ got h r n
    → (encryption_refusal h.encrypted h.addr ≡ 0 → mac_access_refusal h ≡ 0) × (row_bits (mac_access_row h) ≡ take n bs)
unfolding read_mac_access mac_access_row mac_access_refusal
mac_access_again bs e =
    rw sub-zero at (every_read read_mac_access (λ h xs. (encryption_refusal h.encrypted h.addr ≡ 0 → mac_access_refusal h ≡ 0) × (row_bits (mac_access_row h) ≡ xs))
    (uplink_every 1 read_option mac_access_of _ _ option_every
    (λ head a xs fits k. (λ z. allowed_test _ _ _ (record { encryption = z; address = fits; fields = k.0 }), rw (rows_append, k.1)))) bs 0 e)

-- in bytes: what from_bitbuf read, to_bitbuf writes at the same cursor, and no byte changes
pub mac_access_written-again : (s : List ℕ) (c d : Cursor) (h : MacAccess) → Bytes s → mac_access_at s c ≡ record { cursor = d; answer = Ok h }
    → encryption_refusal h.encrypted h.addr ≡ 0
    → (mac_access_write s c h ≡ record { cursor = d; answer = (Ok tt) }) × (mac_access_written s c h ≡ s)
unfolding mac_access_at
mac_access_written-again s c d h b e f =
    let r = read_at read_mac_access s c d h e in
    let a = mac_access_again (within s c) r.seen in
    written-again r (row_bits (mac_access_row h)) b a.1 (a.0 f)
