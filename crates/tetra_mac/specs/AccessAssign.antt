-- The ACCESS-ASSIGN as a record of 5 words: header 0 to 3; field one: a, b; field two: a, b. An access field is access code 0 to 3 and base frame
-- length code 0 to 15; a downlink usage is kind (0 Unallocated, 1 AssignedControl, 2 CommonControl, 3 CommonAndAssigned, 4 Traffic) and traffic
-- number; an uplink usage is kind (0 CommonOnly, 1 CommonAndAssigned, 2 AssignedOnly, 3 Unallocated, 4 Traffic) and traffic number.
use Rattle.std.specs.Prelude.{ℕ, min, List, [], ◌∷◌, ◌++◌, Bool, false, cond, ◌&&◌, length, get_or, eqb, leb, ltb, Option}
use Rattle.tetra_core.specs.declared.bitbuffer.Cursor.{Cursor}
use Rattle.access_assign.specs.AccessField.{access_code_number, access_code_of, base_frame_length_number, base_frame_length_of}
use Rattle.access_assign.specs.AccessAssign.{access_assign_at, access_assign_write, access_assign_written}
use Rattle.access_assign.specs.declared.structs.access_field.AccessField.{AccessField}
use Rattle.access_assign.specs.declared.enums.access_assign_dl_usage.AccessAssignDlUsage.{AccessAssignDlUsage}
use Rattle.access_assign.specs.declared.enums.access_assign_dl_usage.AccessAssignDlUsage.TheVariants as Dl'
use Rattle.access_assign.specs.declared.enums.access_assign_ul_usage.AccessAssignUlUsage.{AccessAssignUlUsage}
use Rattle.access_assign.specs.declared.enums.access_assign_ul_usage.AccessAssignUlUsage.TheVariants as Ul'
use Rattle.access_assign.specs.declared.access_assign.AccessAssign.{AccessAssign}
use Rattle.access_assign.specs.declared.access_assign.AccessAssign.TheVariants.{DownlinkCommonControlUplinkCommonOnly, DownlinkDefinedUplinkCommonAndAssigned, DownlinkDefinedUplinkAssignedOnly, DownlinkDefinedUplinkDefined}
use Rattle.tetra_mac.specs.Reply.{Reply, WriteReply, header_read_reply, write_reply, value_if, word}

-- ---- the words of an ACCESS-ASSIGN

abbrev pub field_words : AccessField → List ℕ
field_words f = access_code_number f.access_code ∷ base_frame_length_number f.base_frame_len ∷ []

abbrev pub dl_kind : AccessAssignDlUsage → ℕ
dl_kind Dl'.Unallocated = 0
dl_kind Dl'.AssignedControl = 1
dl_kind Dl'.CommonControl = 2
dl_kind Dl'.CommonAndAssigned = 3
dl_kind (Dl'.Traffic n) = 4

abbrev pub dl_traffic : AccessAssignDlUsage → ℕ
dl_traffic Dl'.Unallocated = 0
dl_traffic Dl'.AssignedControl = 0
dl_traffic Dl'.CommonControl = 0
dl_traffic Dl'.CommonAndAssigned = 0
dl_traffic (Dl'.Traffic n) = n

abbrev pub dl_words : AccessAssignDlUsage → List ℕ
dl_words u = dl_kind u ∷ dl_traffic u ∷ []

abbrev pub ul_kind : AccessAssignUlUsage → ℕ
ul_kind Ul'.CommonOnly = 0
ul_kind Ul'.CommonAndAssigned = 1
ul_kind Ul'.AssignedOnly = 2
ul_kind Ul'.Unallocated = 3
ul_kind (Ul'.Traffic n) = 4

abbrev pub ul_traffic : AccessAssignUlUsage → ℕ
ul_traffic Ul'.CommonOnly = 0
ul_traffic Ul'.CommonAndAssigned = 0
ul_traffic Ul'.AssignedOnly = 0
ul_traffic Ul'.Unallocated = 0
ul_traffic (Ul'.Traffic n) = n

abbrev pub ul_words : AccessAssignUlUsage → List ℕ
ul_words u = ul_kind u ∷ ul_traffic u ∷ []

abbrev pub access_assign_words : AccessAssign → List ℕ
access_assign_words (DownlinkCommonControlUplinkCommonOnly f g) = 0 ∷ field_words f ++ field_words g
access_assign_words (DownlinkDefinedUplinkCommonAndAssigned d f) = 1 ∷ dl_words d ++ field_words f
access_assign_words (DownlinkDefinedUplinkAssignedOnly d f) = 2 ∷ dl_words d ++ field_words f
access_assign_words (DownlinkDefinedUplinkDefined d u) = 3 ∷ dl_words d ++ ul_words u

-- ---- the ACCESS-ASSIGN of words

unfoldable pub field_known : ℕ → ℕ → Bool
field_known code len = leb code 3 && ltb len 16

-- field one, for the headers 0 to 3
abbrev pub one_knowns : ℕ → ℕ → List Bool
one_knowns a b = field_known a b ∷ ltb a 5 ∷ ltb a 5 ∷ ltb a 5 ∷ []

unfoldable pub one_known : ℕ → ℕ → ℕ → Bool
one_known header a b = get_or (one_knowns a b) header false

unfoldable pub two_known : ℕ → ℕ → ℕ → Bool
two_known header a b = cond (eqb header 3) (ltb a 5) (field_known a b)

unfoldable pub access_assign_known : List ℕ → Bool
access_assign_known ws = leb 5 (length ws) && (one_known (word ws 0) (word ws 1) (word ws 2) && two_known (word ws 0) (word ws 3) (word ws 4))

unfoldable pub field_value : ℕ → ℕ → AccessField
field_value code len = record { access_code = access_code_of code; base_frame_len = base_frame_length_of len }

-- the usages of the kinds 0 to 3; what is known and none of these is kind 4, traffic
abbrev pub dl_usages : List AccessAssignDlUsage
dl_usages = Dl'.Unallocated ∷ Dl'.AssignedControl ∷ Dl'.CommonControl ∷ Dl'.CommonAndAssigned ∷ []

unfoldable pub dl_value : ℕ → ℕ → AccessAssignDlUsage
dl_value kind traffic = get_or dl_usages kind (Dl'.Traffic (min traffic 255))

abbrev pub ul_usages : List AccessAssignUlUsage
ul_usages = Ul'.CommonOnly ∷ Ul'.CommonAndAssigned ∷ Ul'.AssignedOnly ∷ Ul'.Unallocated ∷ []

unfoldable pub ul_value : ℕ → ℕ → AccessAssignUlUsage
ul_value kind traffic = get_or ul_usages kind (Ul'.Traffic (min traffic 255))

-- the values of the headers 0 to 2; what is known and none of these is header 3
abbrev pub assigns : ℕ → ℕ → ℕ → ℕ → List AccessAssign
assigns a b c d =
    DownlinkCommonControlUplinkCommonOnly (field_value a b) (field_value c d)
    ∷ DownlinkDefinedUplinkCommonAndAssigned (dl_value a b) (field_value c d)
    ∷ DownlinkDefinedUplinkAssignedOnly (dl_value a b) (field_value c d)
    ∷ []

unfoldable pub assign_value : ℕ → ℕ → ℕ → ℕ → ℕ → AccessAssign
assign_value header a b c d = get_or (assigns a b c d) header (DownlinkDefinedUplinkDefined (dl_value a b) (ul_value c d))

abbrev pub access_assign_value : List ℕ → AccessAssign
access_assign_value ws = assign_value (word ws 0) (word ws 1) (word ws 2) (word ws 3) (word ws 4)

abbrev pub access_assign_of_words : List ℕ → Option AccessAssign
access_assign_of_words ws = value_if (access_assign_known ws) (access_assign_value ws)

-- ---- the calls

abbrev pub access_assign_read_reply : List ℕ → Cursor → List ℕ → Reply
access_assign_read_reply s c out = header_read_reply access_assign_words 6 (access_assign_at s c) out

abbrev pub access_assign_write_reply : List ℕ → Cursor → List ℕ → List ℕ → WriteReply
access_assign_write_reply s c ws out = write_reply (access_assign_write s c) (access_assign_written s c) s (access_assign_of_words ws) out
