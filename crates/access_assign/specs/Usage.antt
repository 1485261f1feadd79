-- Usage markers (document 01): "Downlink 0 to 3 are names, 4 to 63 traffic. Uplink 0 is unallocated, 1 to 3 refused, 4 to 63 traffic."
use Rattle.std.specs.Prelude.{ℕ, List, [], ◌∷◌, Bool, true, false, cond, ◌||◌, get_or, eqb, leb, None, Option, Some}
use Rattle.tetra_core.specs.Refusal.{unless, first}
use Rattle.access_assign.specs.declared.enums.access_assign_dl_usage.AccessAssignDlUsage.{AccessAssignDlUsage}
use Rattle.access_assign.specs.declared.enums.access_assign_dl_usage.AccessAssignDlUsage.TheVariants as Dl'
use Rattle.access_assign.specs.declared.enums.access_assign_ul_usage.AccessAssignUlUsage.{AccessAssignUlUsage}
use Rattle.access_assign.specs.declared.enums.access_assign_ul_usage.AccessAssignUlUsage.TheVariants as Ul'

-- "value wider than its field" before "traffic below 4"
unfoldable pub traffic_refusal : ℕ → ℕ
traffic_refusal n = first (unless (leb n 63) 3 ∷ unless (leb 4 n) 7 ∷ [])

-- ---- downlink

abbrev pub dl_marker : AccessAssignDlUsage → ℕ
dl_marker Dl'.Unallocated = 0
dl_marker Dl'.AssignedControl = 1
dl_marker Dl'.CommonControl = 2
dl_marker Dl'.CommonAndAssigned = 3
dl_marker (Dl'.Traffic n) = n

-- the usages of 0 to 3
abbrev pub dl_names : List AccessAssignDlUsage
dl_names = Dl'.Unallocated ∷ Dl'.AssignedControl ∷ Dl'.CommonControl ∷ Dl'.CommonAndAssigned ∷ []

unfoldable pub dl_usage_of : ℕ → AccessAssignDlUsage
dl_usage_of v = get_or dl_names v (Dl'.Traffic v)

abbrev pub dl_refusal : AccessAssignDlUsage → ℕ
dl_refusal Dl'.Unallocated = 0
dl_refusal Dl'.AssignedControl = 0
dl_refusal Dl'.CommonControl = 0
dl_refusal Dl'.CommonAndAssigned = 0
dl_refusal (Dl'.Traffic n) = traffic_refusal n

abbrev pub dl_is_traffic : AccessAssignDlUsage → Bool
dl_is_traffic Dl'.Unallocated = false
dl_is_traffic Dl'.AssignedControl = false
dl_is_traffic Dl'.CommonControl = false
dl_is_traffic Dl'.CommonAndAssigned = false
dl_is_traffic (Dl'.Traffic n) = true

abbrev pub dl_channel : AccessAssignDlUsage → Option ℕ
dl_channel Dl'.Unallocated = None
dl_channel Dl'.AssignedControl = None
dl_channel Dl'.CommonControl = None
dl_channel Dl'.CommonAndAssigned = None
dl_channel (Dl'.Traffic n) = Some n

-- ---- uplink

abbrev pub ul_marker : AccessAssignUlUsage → Option ℕ
ul_marker Ul'.CommonOnly = None
ul_marker Ul'.CommonAndAssigned = None
ul_marker Ul'.AssignedOnly = None
ul_marker Ul'.Unallocated = Some 0
ul_marker (Ul'.Traffic n) = Some n

-- the number that stands in the field; nothing without a marker is written
abbrev pub marker_number : Option ℕ → ℕ
marker_number (Some n) = n
marker_number None = 0

-- a number that marks a usage: all but 1 to 3
abbrev pub ul_marks : ℕ → Bool
ul_marks v = eqb v 0 || leb 4 v

-- the usage that it marks
unfoldable pub ul_usage_of : ℕ → AccessAssignUlUsage
ul_usage_of v = cond (eqb v 0) Ul'.Unallocated (Ul'.Traffic v)

unfoldable pub ul_usage : ℕ → Option AccessAssignUlUsage
ul_usage v = cond (ul_marks v) (Some (ul_usage_of v)) None

-- "uplink marker 1 to 3 or one without code; traffic below 4"
abbrev pub ul_refusal : AccessAssignUlUsage → ℕ
ul_refusal Ul'.CommonOnly = 7
ul_refusal Ul'.CommonAndAssigned = 7
ul_refusal Ul'.AssignedOnly = 7
ul_refusal Ul'.Unallocated = 0
ul_refusal (Ul'.Traffic n) = traffic_refusal n

abbrev pub ul_is_traffic : AccessAssignUlUsage → Bool
ul_is_traffic Ul'.CommonOnly = false
ul_is_traffic Ul'.CommonAndAssigned = false
ul_is_traffic Ul'.AssignedOnly = false
ul_is_traffic Ul'.Unallocated = false
ul_is_traffic (Ul'.Traffic n) = true

abbrev pub ul_channel : AccessAssignUlUsage → Option ℕ
ul_channel Ul'.CommonOnly = None
ul_channel Ul'.CommonAndAssigned = None
ul_channel Ul'.AssignedOnly = None
ul_channel Ul'.Unallocated = None
ul_channel (Ul'.Traffic n) = Some n
