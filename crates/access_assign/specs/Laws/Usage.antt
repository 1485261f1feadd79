-- A usage that nothing refuses has a marker of 6 bits that gives it again, and each marker of 6 bits is that of its usage.
use Rattle.std.specs.Prelude.{ℕ, ◌≤◌, ◌<◌, ◌≡◌, refl, Bool, true, false, cond, not, ◌&&◌, ◌||◌, eqb, leb, None, Option, Some}
use Rattle.std.proofs.Common.{arith, lit<, leb-true, le-leb, eqb-true, ne_eqb}
use Rattle.std.proofs.Math.ListN.{get_or-eq_default}
use Rattle.tetra_core.specs.Refusal.{unless, first, first-none, passed}
use Rattle.tetra_core.specs.Laws.Windows.{and_both}
use Rattle.codec.proofs.Laws.AllBelow.{below}
use Rattle.access_assign.specs.Usage.{traffic_refusal, dl_marker, dl_names, dl_usage_of, dl_refusal, ul_marker, marker_number, ul_marks, ul_usage_of, ul_usage, ul_refusal}
use Rattle.access_assign.specs.declared.enums.access_assign_dl_usage.AccessAssignDlUsage.{AccessAssignDlUsage}
use Rattle.access_assign.specs.declared.enums.access_assign_dl_usage.AccessAssignDlUsage.TheVariants as Dl'
use Rattle.access_assign.specs.declared.enums.access_assign_ul_usage.AccessAssignUlUsage.{AccessAssignUlUsage}
use Rattle.access_assign.specs.declared.enums.access_assign_ul_usage.AccessAssignUlUsage.TheVariants as Ul'

traffic_facts : (n : ℕ) → traffic_refusal n ≡ 0 → (4 ≤ n) × (n < 64)
unfolding traffic_refusal
traffic_facts n e =
    let w = first-none (unless (leb n 63) 3) _ e in
    let u = leb-true n 63 (passed _ 2 w.0) in
    let l = leb-true 4 n (passed _ 6 (first-none (unless (leb 4 n) 7) _ w.1).0) in
    (l, omega arith)

-- ---- what is written is read back

pub dl_back : (u : AccessAssignDlUsage) → dl_refusal u ≡ 0 → (dl_marker u < 64) × (dl_usage_of (dl_marker u) ≡ u)
unfolding dl_usage_of
dl_back Dl'.Unallocated e = (lit< tt, refl)
dl_back Dl'.AssignedControl e = (lit< tt, refl)
dl_back Dl'.CommonControl e = (lit< tt, refl)
dl_back Dl'.CommonAndAssigned e = (lit< tt, refl)
dl_back (Dl'.Traffic n) e = let t = traffic_facts n e in (t.1, get_or-eq_default dl_names (Dl'.Traffic n) t.0)

pub record UlBack (u : AccessAssignUlUsage) : Type 0 where
  pub small : marker_number (ul_marker u) < 64
  pub marks : ul_marks (marker_number (ul_marker u)) ≡ true
  pub same : ul_usage_of (marker_number (ul_marker u)) ≡ u

pub ul_back : (u : AccessAssignUlUsage) → ul_refusal u ≡ 0 → UlBack u
unfolding ul_usage_of
ul_back Ul'.CommonOnly e = absurd (omega arith)
ul_back Ul'.CommonAndAssigned e = absurd (omega arith)
ul_back Ul'.AssignedOnly e = absurd (omega arith)
ul_back Ul'.Unallocated e = record { small = lit< tt; marks = refl; same = refl }
ul_back (Ul'.Traffic n) e =
    let t = traffic_facts n e in
    let l = t.0 in
    let z = ne_eqb n 0 (λ d. omega arith) in
    record { small = t.1; marks = rw (z, le-leb 4 n l); same = rw z }

-- ---- what is read is written again

pub dl_again : (v : ℕ) → v < 64 → (dl_refusal (dl_usage_of v) ≡ 0) × (dl_marker (dl_usage_of v) ≡ v)
unfolding dl_usage_of traffic_refusal first
dl_again v h =
    let b = and_both _ _ (below 64 (λ x. eqb (dl_refusal (dl_usage_of x)) 0 && eqb (dl_marker (dl_usage_of x)) x) refl v h) in
    (eqb-true _ _ b.0, eqb-true _ _ b.1)

pub ul_again : (v : ℕ) → v < 64 → ul_marks v ≡ true → (ul_refusal (ul_usage_of v) ≡ 0) × (marker_number (ul_marker (ul_usage_of v)) ≡ v)
unfolding ul_usage_of traffic_refusal first
ul_again v h m =
    let t = below 64 (λ x. not (ul_marks x) || (eqb (ul_refusal (ul_usage_of x)) 0 && eqb (marker_number (ul_marker (ul_usage_of x))) x)) refl v h in
    let b = and_both _ _ (rw m at t) in
    (eqb-true _ _ b.0, eqb-true _ _ b.1)

-- ---- what an answer from a marker says of it

found : (b : Bool) {u w : AccessAssignUlUsage} {r : Option AccessAssignUlUsage} → r ≡ cond b (Some w) None → r ≡ Some u → (b ≡ true) × (w ≡ u)
found true e f = (refl, cc)
found false e f = absurd (let z : ◌≡◌ {A = ℕ} 0 1 = cc in omega arith)

missing : (b : Bool) (w : AccessAssignUlUsage) {r : Option AccessAssignUlUsage} → r ≡ cond b (Some w) None → r ≡ None → b ≡ false
missing true w e f = absurd (let z : ◌≡◌ {A = ℕ} 0 1 = cc in omega arith)
missing false w e f = refl

pub ul_found : (v : ℕ) {u : AccessAssignUlUsage} {r : Option AccessAssignUlUsage} → r ≡ ul_usage v → r ≡ Some u → (ul_marks v ≡ true) × (ul_usage_of v ≡ u)
unfolding ul_usage
ul_found v = found (ul_marks v)

pub ul_missing : (v : ℕ) {r : Option AccessAssignUlUsage} → r ≡ ul_usage v → r ≡ None → ul_marks v ≡ false
unfolding ul_usage
ul_missing v = missing (ul_marks v) (ul_usage_of v)
