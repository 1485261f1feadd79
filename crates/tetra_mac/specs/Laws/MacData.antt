-- The MAC-DATA's words give it back, it is refused only at offsets that were reached, and so its refusals have a bit that fits a status.
use Rattle.std.specs.Prelude.{ℕ, ◌≤◌, ◌≡◌, refl, List, true, length, Some, Err}
use Rattle.std.proofs.Common.{arith}
use Rattle.tetra_core.specs.Laws.Windows.{and_both}
use Rattle.tetra_core.specs.declared.bitbuffer.Cursor.{Cursor}
use Rattle.tetra_core.specs.declared.bitbuffer.Read.{Read}
use Rattle.tetra_core.specs.declared.refusal.Refusal.{Refusal}
use Rattle.codec.specs.Cases.{flag}
use Rattle.codec.proofs.Laws.Cases.{flag-back}
use Rattle.tetra_fields.specs.UplinkAddress.{read_uplink_address}
use Rattle.tetra_fields.specs.UplinkHead.{read_uplink_body, read_uplink_head}
use Rattle.mac_data.specs.MacData.{read_request, read_option, read_mac_data, mac_data_at}
use Rattle.mac_data.specs.declared.mac_data.MacDataOption.{MacDataOption}
use Rattle.mac_data.specs.declared.mac_data.MacDataOption.TheVariants.{LengthInd, CapacityRequest}
use Rattle.mac_data.specs.declared.mac_data.MacData.{MacData}
use Rattle.tetra_mac.specs.Reply.{value_if, word}
use Rattle.tetra_mac.specs.MacAccess.{option_kind, mac_access_known, mac_access_value}
use Rattle.tetra_mac.specs.MacData.{access_option, data_option, mac_data_words, mac_data_known, mac_data_of_words}
use Rattle.tetra_mac.specs.Laws.Address.{UplinkTyped, uplink_kept}
use Rattle.tetra_mac.specs.Laws.MacAccess.{OptionTyped, option_kept, mac_access_long}
use Rattle.tetra_mac.specs.Laws.Placed.{Placed, offset-fits}

-- there is an option, and it is the same again
option_there : (o : MacDataOption) → (flag (option_kind (access_option o)) ≡ true) × (data_option (access_option o) ≡ o)
option_there (LengthInd n) = (refl, refl)
option_there (CapacityRequest f q) = (refl, refl)

pub mac_data_of_words_lem : (h : MacData) → UplinkTyped h.addr → OptionTyped (access_option h.option) → mac_data_of_words (mac_data_words h) ≡ Some h
unfolding value_if mac_data_known mac_access_known mac_access_value
mac_data_of_words_lem h t u =
    let a = uplink_kept h.addr t in
    let o = option_kept (access_option h.option) u in
    let d = option_there h.option in
    rw (a.0, o.0, d.0, a.1, o.1, d.1, flag-back h.fill_bits, flag-back h.encrypted)

pub mac_data_long : (ws : List ℕ) → mac_data_known ws ≡ true → 8 ≤ length ws
unfolding mac_data_known
mac_data_long ws e = mac_access_long ws (and_both (mac_access_known ws) (flag (word ws 5)) e).0

pub mac_data_placed : Placed 0 read_mac_data
unfolding read_mac_data read_option read_request read_uplink_head read_uplink_body read_uplink_address
mac_data_placed = λ _. (omega arith, λ _ _ _ _ _. ((λ _. tt), (λ _ _ _. tt)))

pub mac_data_bit_lem : (s : List ℕ) (c : Cursor) {d : Read MacData} {r : Refusal} → d ≡ mac_data_at s c → d.answer ≡ Err r → r.offset ≤ 65536
unfolding mac_data_at
mac_data_bit_lem = offset-fits read_mac_data mac_data_placed
