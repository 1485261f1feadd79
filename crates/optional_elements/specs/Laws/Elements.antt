-- The elements of a MAC-RESOURCE: what is known where nothing refuses them, how long they are, what was written is read back, and what was
-- read is written again.
use Rattle.std.specs.Prelude.{ℕ, ◌+◌, ◌≤◌, ◌≡◌, refl, Bool, true, false, ◌&&◌, eqb, leb, length, None, Ok, Option, Some}
use Rattle.std.proofs.Common.{sym, true≢false, arith, lit<, length-append, leb-true, eqb-true}
use mathlib.Core.List.{List, ◌++◌, append_assoc, append-nil}
use Rattle.std.proofs.Math.Nat.{add_assoc}
use Rattle.bits.specs.Bits.{bits_of_nat}
use Rattle.tetra_core.specs.Refusal.{first, first-none, first_skip, first_last}
use Rattle.codec.specs.declared.Ahead.{Ahead}
use Rattle.channel_allocation.specs.declared.channel_allocation.ChanAllocElement.{ChanAllocElement}
use Rattle.tetra_fields.specs.declared.fields.basic_slotgrant.BasicSlotgrant.{BasicSlotgrant}
use Rattle.codec.specs.Reader.{got, parse}
use Rattle.codec.proofs.Laws.Reader.{parse_bind}
use Rattle.codec.specs.Header.{Word}
use Rattle.codec.specs.Ahead.{next_bits, Held, Ready}
use Rattle.codec.specs.Row.{row_bits}
use Rattle.codec.specs.Encoded.{EncodesOne}
use Rattle.codec.proofs.Laws.Encoded.{piece_encodes}
use Rattle.codec.specs.WrittenAgain.{Every}
use Rattle.codec.proofs.Laws.WrittenAgain.{every_bind}
use Rattle.optional_elements.specs.PowerControl.{read_power, power_refusal}
use Rattle.optional_elements.specs.GrantAndAllocation.{read_grant_and_allocation, grant_and_allocation_refusal, grant_and_allocation_bits}
use Rattle.optional_elements.specs.Elements.{flags_len, elements_most, elements_len, no_elements, is_bare, no_element, read_elements, elements_refusal, elements_bits, normal_elements}
use Rattle.optional_elements.specs.Laws.PowerControl.{power-length, power-bounds, power-back, PowerAgain, power_every}
use Rattle.optional_elements.specs.Laws.GrantAndAllocation.{grant_and_allocation-length, grant_and_allocation-bounds, grant_and_allocation-back, GrantAndAllocationAgain, grant_and_allocation_every}
use Rattle.optional_elements.specs.declared.elements.Elements.{Elements}

module _ (e : Elements) where
  pub elements-told : elements_refusal e ≡ 0 → (power_refusal e.power_control_element ≡ 0) × (grant_and_allocation_refusal e.grant_and_allocation ≡ 0)
  unfolding elements_refusal
  elements-told h =
      let p = first-none (power_refusal e.power_control_element) _ h in
      (p.0, (first-none (grant_and_allocation_refusal e.grant_and_allocation) _ p.1).0)

  pub elements-length : length (elements_bits e) ≡ elements_len e
  unfolding elements_bits
  elements-length = rw (length-append, power-length e.power_control_element, grant_and_allocation-length e.grant_and_allocation)

  pub elements-bounds : (flags_len ≤ elements_len e) × (elements_len e ≤ elements_most)
  elements-bounds =
      let p = power-bounds e.power_control_element in
      let b = grant_and_allocation-bounds e.grant_and_allocation in
      (omega arith, omega arith)

  pub elements-back : elements_refusal e ≡ 0 → (rest : List Bool) (o : ℕ) → parse read_elements (elements_bits e ++ rest) o ≡ got (normal_elements e) rest (o + elements_len e)
  unfolding read_elements elements_bits
  elements-back h rest o =
      let t = elements-told h in
      rw (
        append_assoc,
        parse_bind,
        power-back e.power_control_element t.0 _ o,
        parse_bind,
        grant_and_allocation-back e.grant_and_allocation t.1 rest _,
        add_assoc,
      )

-- ---- no element

-- three flags that are not set
none-encodes : EncodesOne (elements_refusal no_elements) flags_len (elements_bits no_elements) (record { judged = Ok tt; piece = record { value = 0; bits = flags_len } })
unfolding elements_refusal grant_and_allocation_refusal elements_bits grant_and_allocation_bits row_bits bits_of_nat first
none-encodes = piece_encodes (Ok tt) refl (omega arith) (record { is = refl; size = refl; small = lit< tt })

bare_is : (p : Option ℕ) (g : Option BasicSlotgrant) (a : Option ChanAllocElement)
    → let e : Elements = record { power_control_element = p; grant_and_allocation = record { slot_granting_element = g; chan_alloc_element = a } } in
    is_bare e ≡ true → e ≡ no_elements
bare_is None None None z = refl
bare_is None None (Some e) z = absurd (let y : ◌≡◌ {A = ℕ} 0 1 = cc in omega arith)
bare_is None (Some g) a z = absurd (let y : ◌≡◌ {A = ℕ} 0 1 = cc in omega arith)
bare_is (Some v) g a z = absurd (let y : ◌≡◌ {A = ℕ} 0 1 = cc in omega arith)

pub bare_encodes : (e : Elements) → is_bare e ≡ true
    → EncodesOne (elements_refusal e) (elements_len e) (elements_bits e) (record { judged = Ok tt; piece = record { value = 0; bits = flags_len } })
bare_encodes e z =
    rw (bare_is e.power_control_element e.grant_and_allocation.slot_granting_element e.grant_and_allocation.chan_alloc_element z) none-encodes

both : (b c : Bool) → b && c ≡ true → (b ≡ true) × (c ≡ true)
both true c e = (refl, e)
both false c e = absurd (true≢false (sym e))

-- the flags that are ahead are three zeros
pub flags_clear : {h : List Bool} {a : Ahead} → Held h a → Ready a flags_len → no_element a ≡ true → Word h a.at flags_len 0 × (flags_len ≤ a.left)
flags_clear {a = a} e r n =
    let t = both (leb flags_len a.left) (eqb (next_bits a flags_len) 0) n in
    let l = leb-true flags_len a.left t.0 in
    (rw (eqb-true (next_bits a flags_len) 0 t.1) at (e.part flags_len l r.room), l)

-- ---- what is read, written again

-- they are not refused, they are in normal form, and their bits are xs
abbrev pub ElementsAgain : Elements → List Bool → Type 0
ElementsAgain e xs = (elements_refusal e ≡ 0) × (normal_elements e ≡ e) × (elements_bits e ≡ xs)

pub elements_every : Every read_elements ElementsAgain
unfolding read_elements elements_refusal elements_bits
elements_every =
    every_bind read_power _ PowerAgain ElementsAgain power_every
    (λ p xs hp. every_bind read_grant_and_allocation _ GrantAndAllocationAgain _ grant_and_allocation_every
    (λ b ys hb. (rw (hp.0, hb.0, first_skip 0 _ refl, first_last), rw hb.1, rw (hp.1, hb.2, append-nil))))
