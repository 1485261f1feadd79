-- Slot granting and channel allocation: what is known where nothing refuses them, how long they are, what was written is read back, and what
-- was read is written again.
use Rattle.std.specs.Prelude.{ℕ, ◌+◌, ◌≤◌, ◌≡◌, refl, Bool, length}
use mathlib.Core.List.{List, ◌++◌, append_assoc, append-nil}
use Rattle.std.proofs.Common.{arith, length-append}
use Rattle.std.proofs.Math.Nat.{add_assoc}
use Rattle.tetra_core.specs.Refusal.{first-none, first_skip, first_last}
use Rattle.codec.specs.Reader.{got, parse}
use Rattle.codec.proofs.Laws.Reader.{parse_bind}
use Rattle.codec.specs.WrittenAgain.{Every}
use Rattle.codec.proofs.Laws.WrittenAgain.{every_bind}
use Rattle.optional_elements.specs.SlotGranting.{read_granting, granting_refusal}
use Rattle.optional_elements.specs.Allocation.{read_allocation, allocation_refusal}
use Rattle.optional_elements.specs.GrantAndAllocation.{grant_and_allocation_most, grant_and_allocation_len, read_grant_and_allocation, grant_and_allocation_refusal, grant_and_allocation_bits, normal_grant_and_allocation}
use Rattle.optional_elements.specs.Laws.SlotGranting.{granting-length, granting-bounds, granting-back, GrantingAgain, granting_every}
use Rattle.optional_elements.specs.Laws.Allocation.{allocation-length, allocation-bounds, allocation-back, AllocationAgain, allocation_every}
use Rattle.optional_elements.specs.declared.grant_and_allocation.GrantAndAllocation.{GrantAndAllocation}

module _ (e : GrantAndAllocation) where
  pub grant_and_allocation-told : grant_and_allocation_refusal e ≡ 0 → (granting_refusal e.slot_granting_element ≡ 0) × (allocation_refusal e.chan_alloc_element ≡ 0)
  unfolding grant_and_allocation_refusal
  grant_and_allocation-told h =
      let g = first-none (granting_refusal e.slot_granting_element) _ h in
      (g.0, (first-none (allocation_refusal e.chan_alloc_element) _ g.1).0)

  pub grant_and_allocation-length : length (grant_and_allocation_bits e) ≡ grant_and_allocation_len e
  unfolding grant_and_allocation_bits
  grant_and_allocation-length = rw (length-append, granting-length e.slot_granting_element, allocation-length e.chan_alloc_element)

  pub grant_and_allocation-bounds : (2 ≤ grant_and_allocation_len e) × (grant_and_allocation_len e ≤ grant_and_allocation_most)
  grant_and_allocation-bounds =
      let g = granting-bounds e.slot_granting_element in
      let a = allocation-bounds e.chan_alloc_element in
      (omega arith, omega arith)

  pub grant_and_allocation-back : grant_and_allocation_refusal e ≡ 0 → (rest : List Bool) (o : ℕ)
      → parse read_grant_and_allocation (grant_and_allocation_bits e ++ rest) o ≡ got (normal_grant_and_allocation e) rest (o + grant_and_allocation_len e)
  unfolding read_grant_and_allocation grant_and_allocation_bits
  grant_and_allocation-back h rest o =
      let t = grant_and_allocation-told h in
      rw (
        append_assoc,
        parse_bind,
        granting-back e.slot_granting_element t.0 _ o,
        append_assoc,
        parse_bind,
        allocation-back e.chan_alloc_element t.1 rest _,
        add_assoc,
      )

-- they are not refused, they are in normal form, and their bits are xs
abbrev pub GrantAndAllocationAgain : GrantAndAllocation → List Bool → Type 0
GrantAndAllocationAgain e xs = (grant_and_allocation_refusal e ≡ 0) × (normal_grant_and_allocation e ≡ e) × (grant_and_allocation_bits e ≡ xs)

pub grant_and_allocation_every : Every read_grant_and_allocation GrantAndAllocationAgain
unfolding read_grant_and_allocation grant_and_allocation_refusal grant_and_allocation_bits
grant_and_allocation_every =
    every_bind read_granting _ GrantingAgain GrantAndAllocationAgain granting_every
    (λ g xs hg. every_bind read_allocation _ AllocationAgain _ allocation_every
    (λ a ys ha. (rw (hg.0, ha.0, first_skip 0 _ refl, first_last), rw ha.1, rw (hg.1, ha.2, append-nil))))
