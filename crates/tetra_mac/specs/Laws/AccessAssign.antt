-- The ACCESS-ASSIGN's words give it back, it is refused only at offsets that were reached, and so its refusals have a bit that fits a status.
use Rattle.std.specs.Prelude.{ℕ, ◌≤◌, ◌≡◌, refl, List, true, length, ltb, Some, Err}
use Rattle.std.proofs.Common.{arith}
use borrow.Author.Tests.{le-leb, lt-ltb}
use Rattle.tetra_core.specs.declared.bitbuffer.Cursor.{Cursor}
use Rattle.tetra_core.specs.declared.bitbuffer.Read.{Read}
use Rattle.tetra_core.specs.declared.refusal.Refusal.{Refusal}
use Rattle.access_assign.specs.AccessField.{access_code_number, base_frame_length_number}
use Rattle.access_assign.specs.AccessAssign.{access_assign_of, read_access_assign, access_assign_at}
use Rattle.access_assign.specs.Laws.AccessField.{access_code-back, base_frame_length-back}
use Rattle.access_assign.specs.declared.structs.access_field.AccessField.{AccessField}
use Rattle.access_assign.specs.declared.enums.access_assign_dl_usage.AccessAssignDlUsage.{AccessAssignDlUsage}
use Rattle.access_assign.specs.declared.enums.access_assign_dl_usage.AccessAssignDlUsage.TheVariants as Dl'
use Rattle.access_assign.specs.declared.enums.access_assign_ul_usage.AccessAssignUlUsage.{AccessAssignUlUsage}
use Rattle.access_assign.specs.declared.enums.access_assign_ul_usage.AccessAssignUlUsage.TheVariants as Ul'
use Rattle.access_assign.specs.declared.access_assign.AccessAssign.{AccessAssign}
use Rattle.access_assign.specs.declared.access_assign.AccessAssign.TheVariants.{DownlinkCommonControlUplinkCommonOnly, DownlinkDefinedUplinkCommonAndAssigned, DownlinkDefinedUplinkAssignedOnly, DownlinkDefinedUplinkDefined}
use Rattle.tetra_mac.specs.Reply.{value_if}
use Rattle.tetra_mac.specs.AccessAssign.{dl_kind, dl_traffic, ul_kind, ul_traffic, field_known, field_value, dl_value, ul_value, one_known, two_known, assign_value, access_assign_words, access_assign_known, access_assign_of_words}
use Rattle.tetra_mac.specs.Laws.Placed.{Placed, offset-fits}
use Rattle.tetra_mac.specs.Laws.Reply.{kept, long-enough}

-- the traffic numbers of an ACCESS-ASSIGN are of the types of their fields
abbrev pub AssignTyped : AccessAssign → Type 0
AssignTyped (DownlinkCommonControlUplinkCommonOnly f g) = Unit {0}
AssignTyped (DownlinkDefinedUplinkCommonAndAssigned d f) = dl_traffic d ≤ 255
AssignTyped (DownlinkDefinedUplinkAssignedOnly d f) = dl_traffic d ≤ 255
AssignTyped (DownlinkDefinedUplinkDefined d u) = (dl_traffic d ≤ 255) × (ul_traffic u ≤ 255)

module _ (f : AccessField) where
  abbrev code : ℕ
  code = access_code_number f.access_code

  abbrev len : ℕ
  len = base_frame_length_number f.base_frame_len

  field-kept : (field_known code len ≡ true) × (field_value code len ≡ f)
  unfolding field_known field_value
  field-kept =
      let a = access_code-back f.access_code in
      let b = base_frame_length-back f.base_frame_len in
      (rw (le-leb code 3 (omega (arith, a.0)), lt-ltb len 16 b.0), rw (a.1, b.1))

dl_kept : (u : AccessAssignDlUsage) → dl_traffic u ≤ 255 → (ltb (dl_kind u) 5 ≡ true) × (dl_value (dl_kind u) (dl_traffic u) ≡ u)
unfolding dl_value
dl_kept Dl'.Unallocated h = (refl, refl)
dl_kept Dl'.AssignedControl h = (refl, refl)
dl_kept Dl'.CommonControl h = (refl, refl)
dl_kept Dl'.CommonAndAssigned h = (refl, refl)
dl_kept (Dl'.Traffic n) h = (refl, rw (kept n 255 h))

ul_kept : (u : AccessAssignUlUsage) → ul_traffic u ≤ 255 → (ltb (ul_kind u) 5 ≡ true) × (ul_value (ul_kind u) (ul_traffic u) ≡ u)
unfolding ul_value
ul_kept Ul'.CommonOnly h = (refl, refl)
ul_kept Ul'.CommonAndAssigned h = (refl, refl)
ul_kept Ul'.AssignedOnly h = (refl, refl)
ul_kept Ul'.Unallocated h = (refl, refl)
ul_kept (Ul'.Traffic n) h = (refl, rw (kept n 255 h))

pub access_assign_of_words_lem : (a : AccessAssign) → AssignTyped a → access_assign_of_words (access_assign_words a) ≡ Some a
unfolding value_if access_assign_known one_known two_known assign_value
access_assign_of_words_lem (DownlinkCommonControlUplinkCommonOnly f g) t =
    let x = field-kept f in
    let y = field-kept g in
    rw (x.0, y.0, x.1, y.1)
access_assign_of_words_lem (DownlinkDefinedUplinkCommonAndAssigned d f) t =
    let x = dl_kept d t in
    let y = field-kept f in
    rw (x.0, y.0, x.1, y.1)
access_assign_of_words_lem (DownlinkDefinedUplinkAssignedOnly d f) t =
    let x = dl_kept d t in
    let y = field-kept f in
    rw (x.0, y.0, x.1, y.1)
access_assign_of_words_lem (DownlinkDefinedUplinkDefined d u) t =
    let x = dl_kept d t.0 in
    let y = ul_kept u t.1 in
    rw (x.0, y.0, x.1, y.1)

pub access_assign_long : (ws : List ℕ) → access_assign_known ws ≡ true → 5 ≤ length ws
unfolding access_assign_known
access_assign_long ws e = long-enough 5 ws _ e

pub access_assign_placed : Placed 0 read_access_assign
unfolding read_access_assign access_assign_of
access_assign_placed = λ _ _ _. (tt, (tt, (tt, (tt, omega arith))))

pub access_assign_bit_lem : (s : List ℕ) (c : Cursor) {d : Read AccessAssign} {r : Refusal} → d ≡ access_assign_at s c → d.answer ≡ Err r → r.offset ≤ 65536
unfolding access_assign_at
access_assign_bit_lem = offset-fits read_access_assign access_assign_placed
