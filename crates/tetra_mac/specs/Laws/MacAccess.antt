-- The MAC-ACCESS's words give it back, it is refused only at offsets that were reached, and so its refusals have a bit that fits a status.
use Rattle.std.specs.Prelude.{ℕ, ◌≤◌, ◌≡◌, refl, List, true, length, Some, Err}
use Rattle.std.proofs.Common.{arith, lt-ltb}
use Rattle.tetra_core.specs.declared.bitbuffer.Cursor.{Cursor}
use Rattle.tetra_core.specs.declared.bitbuffer.Read.{Read}
use Rattle.tetra_core.specs.declared.refusal.Refusal.{Refusal}
use Rattle.codec.proofs.Laws.Cases.{flag-back}
use Rattle.tetra_fields.specs.ReservationRequirement.{reservation_number}
use Rattle.tetra_fields.specs.UplinkAddress.{read_uplink_address}
use Rattle.tetra_fields.specs.UplinkHead.{read_uplink_body, read_uplink_head}
use Rattle.tetra_fields.specs.Laws.ReservationRequirement.{reservation_back}
use Rattle.mac_access.specs.MacAccess.{read_request, read_chosen, read_option, read_mac_access, mac_access_at}
use Rattle.mac_access.specs.declared.mac_access.MacAccessOption.{MacAccessOption}
use Rattle.mac_access.specs.declared.mac_access.MacAccessOption.TheVariants.{Without, LengthInd, CapacityRequest}
use Rattle.mac_access.specs.declared.mac_access.MacAccess.{MacAccess}
use Rattle.tetra_mac.specs.Reply.{value_if}
use Rattle.tetra_mac.specs.MacAccess.{option_kind, option_first, option_reservation, option_known, option_value, mac_access_words, mac_access_known, mac_access_value, mac_access_of_words}
use Rattle.tetra_mac.specs.Laws.Address.{UplinkTyped, uplink_kept}
use Rattle.tetra_mac.specs.Laws.Placed.{Placed, offset-fits}
use Rattle.tetra_mac.specs.Laws.Reply.{kept, long-enough}

-- the length of an option is of its field's type
abbrev pub OptionTyped : MacAccessOption → Type 0
OptionTyped Without = Unit {0}
OptionTyped (LengthInd n) = n ≤ 255
OptionTyped (CapacityRequest f q) = Unit {0}

pub option_kept : (o : MacAccessOption) → OptionTyped o
    → (option_known (option_kind o) (option_reservation o) ≡ true) × (option_value (option_kind o) (option_first o) (option_reservation o) ≡ o)
unfolding option_known option_value
option_kept Without h = (refl, refl)
option_kept (LengthInd n) h = (refl, rw (kept n 255 h))
option_kept (CapacityRequest f q) h =
    let b = reservation_back q in
    (lt-ltb (reservation_number q) 16 b.0, rw (flag-back f, b.1))

pub mac_access_of_words_lem : (h : MacAccess) → UplinkTyped h.addr → OptionTyped h.option → mac_access_of_words (mac_access_words h) ≡ Some h
unfolding value_if mac_access_known mac_access_value
mac_access_of_words_lem h t u =
    let a = uplink_kept h.addr t in
    let o = option_kept h.option u in
    rw (a.0, o.0, a.1, o.1, flag-back h.fill_bits, flag-back h.encrypted)

pub mac_access_long : (ws : List ℕ) → mac_access_known ws ≡ true → 8 ≤ length ws
unfolding mac_access_known
mac_access_long ws e = long-enough 8 ws _ e

pub mac_access_placed : Placed 0 read_mac_access
unfolding read_mac_access read_option read_chosen read_request read_uplink_head read_uplink_body read_uplink_address
mac_access_placed = λ _. (omega arith, λ _ _ _ _ _. (tt, λ _. ((λ _. tt), (λ _ _. tt))))

pub mac_access_bit_lem : (s : List ℕ) (c : Cursor) {d : Read MacAccess} {r : Refusal} → d ≡ mac_access_at s c → d.answer ≡ Err r → r.offset ≤ 65536
unfolding mac_access_at
mac_access_bit_lem = offset-fits read_mac_access mac_access_placed
