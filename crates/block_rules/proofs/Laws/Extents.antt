-- What an extent says of the bits left, and which bits it goes by.
use Rattle.std.specs.Prelude.{◌≡◌, Bool, false, List, ℕ, ◌+◌, ◌*◌, ◌≤◌, ◌<◌, leb, ltb, eqb, length, get_or, take}
use Rattle.std.proofs.Common.{◌∙◌, inl, inr, le_refl, arith, ltb-true, ltb-false, leb-true, lt-ltb, le-ltb, le-leb, ne_eqb, length-take-le}
use Rattle.block_rules.specs.declared.extent.Extent.{Extent}
use Rattle.block_rules.specs.Numbers.{least_bits, second_slot_stolen, length_at, address_type_at}
use Rattle.block_rules.specs.Extent.{pdu_type, length_field, address_type, counted_extent, resource_extent, extent_of, extent, Spared}
use Rattle.block_rules.proofs.Laws.Lists.{cond_ind, field-take, field-same}

-- ---- the bits left

unfoldable pub Bounds : ℕ → Extent → Type 0
Bounds left Extent.End = left < least_bits
Bounds left (Extent.Unsized r) = least_bits ≤ left
Bounds left (Extent.Null l) = least_bits ≤ left
Bounds left (Extent.Sized s) = (least_bits ≤ s) × (s ≤ left)

bounds-counted : (left l o : ℕ) → least_bits ≤ left → Bounds left (counted_extent left l o)
unfolding Bounds counted_extent
bounds-counted left l o h =
    cond_ind (Bounds left) (ltb l 2) _ _ (λ _. h)
    (λ short. cond_ind (Bounds left) (leb (8 * l) left) _ _ (λ e. (omega (arith, ltb-false l 2 short), leb-true (8 * l) left e))
    (λ _. cond_ind (Bounds left) (ltb (8 * l) (left + 8)) _ _ (λ _. (h, le_refl left)) (λ _. h)))

bounds_of : (left t l a : ℕ) → Bounds left (extent_of left t l a)
unfolding Bounds extent_of resource_extent
bounds_of left t l a =
    cond_ind (Bounds left) (ltb left least_bits) _ _ (λ e. ltb-true left least_bits e)
    (λ e. let h : least_bits ≤ left = ltb-false left least_bits e in
    cond_ind (Bounds left) (eqb t 0) _ _
    (λ _. cond_ind (Bounds left) (eqb a 0) _ _ (λ _. h)
    (λ _. cond_ind (Bounds left) (leb second_slot_stolen l) _ _ (λ _. (h, le_refl left)) (λ _. bounds-counted left l length_at h)))
    (λ _. h))

pub bounds : (bits : List Bool) → Bounds (length bits) (extent bits)
unfolding extent
bounds bits = bounds_of (length bits) (pdu_type bits) (length_field bits) (address_type bits)

pub extent-short : (bits : List Bool) → length bits < least_bits → extent bits ≡ Extent.End
unfolding extent extent_of
extent-short bits h = rw (lt-ltb (length bits) least_bits h)

-- ---- the PDU's bits, alone in a block, have its extent

-- the extent that a PDU's own bits have, by the extent that they have in a block
Again : (t l a : ℕ) → Extent → Type 0
Again t l a Extent.End = Unit {0}
Again t l a (Extent.Unsized r) = Unit {0}
Again t l a (Extent.Null k) = extent_of least_bits t l a ≡ Extent.Null k
Again t l a (Extent.Sized s) = extent_of s t l a ≡ Extent.Sized s

AgainCounted : (l o : ℕ) → Extent → Type 0
AgainCounted l o Extent.End = ⊥
AgainCounted l o (Extent.Unsized r) = Unit {0}
AgainCounted l o (Extent.Null k) = ⊥
AgainCounted l o (Extent.Sized s) = (least_bits ≤ s) × (counted_extent s l o ≡ Extent.Sized s)

again-counted : (left l o : ℕ) → least_bits ≤ left → AgainCounted l o (counted_extent left l o)
unfolding AgainCounted counted_extent
again-counted left l o h =
    cond_ind (AgainCounted l o) (ltb l 2) _ _ (λ _. tt)
    (λ short. cond_ind (AgainCounted l o) (leb (8 * l) left) _ _
    (λ _. (omega (arith, ltb-false l 2 short), rw (short, le-leb (8 * l) (8 * l) (le_refl (8 * l)))))
    (λ long. cond_ind (AgainCounted l o) (ltb (8 * l) (left + 8)) _ _ (λ e. (h, rw (short, long, e))) (λ _. tt)))

from-counted : (t l a o : ℕ) (f : Extent) → AgainCounted l o f
    → ((s : ℕ) → least_bits ≤ s → counted_extent s l o ≡ Extent.Sized s → extent_of s t l a ≡ Extent.Sized s) → Again t l a f
unfolding Again AgainCounted
from-counted t l a o Extent.End x g = absurd x
from-counted t l a o (Extent.Unsized r) x g = tt
from-counted t l a o (Extent.Null k) x g = absurd x
from-counted t l a o (Extent.Sized s) x g = g s x.0 x.1

again-of : (left t l a : ℕ) → Again t l a (extent_of left t l a)
unfolding Again extent_of resource_extent
again-of left t l a =
    cond_ind (Again t l a) (ltb left least_bits) _ _ (λ _. tt)
    (λ e. cond_ind (Again t l a) (eqb t 0) _ _
    (λ et. cond_ind (Again t l a) (eqb a 0) _ _ (λ ea. rw (et, ea))
    (λ ea. cond_ind (Again t l a) (leb second_slot_stolen l) _ _ (λ el. rw (e, et, ea, el))
    (λ el. from-counted t l a length_at (counted_extent left l length_at) (again-counted left l length_at (ltb-false left least_bits e))
    (λ s lo c. rw (le-ltb s least_bits lo, et, ea, el) c))))
    (λ _. tt))

again : (bits : List Bool) → Again (pdu_type bits) (length_field bits) (address_type bits) (extent bits)
unfolding extent
again bits = again-of (length bits) (pdu_type bits) (length_field bits) (address_type bits)

extent-take : (s : ℕ) (bits : List Bool) → least_bits ≤ s → s ≤ length bits
    → extent (take s bits) ≡ extent_of s (pdu_type bits) (length_field bits) (address_type bits)
unfolding extent
extent-take s bits h k =
    rw (length-take-le s bits k, field-take 0 2 s bits (omega arith), field-take length_at 6 s bits (omega arith), field-take address_type_at 3 s bits (omega arith))

pub extent-null : (bits : List Bool) (l : ℕ) → extent bits ≡ Extent.Null l → extent (take least_bits bits) ≡ Extent.Null l
unfolding Bounds Again
extent-null bits l e = extent-take least_bits bits (omega arith) (rw e at (bounds bits)) ∙ (rw e at (again bits))

pub extent-sized : (bits : List Bool) (s : ℕ) → extent bits ≡ Extent.Sized s → extent (take s bits) ≡ Extent.Sized s
unfolding Bounds Again
extent-sized bits s e =
    let b : (least_bits ≤ s) × (s ≤ length bits) = rw e at (bounds bits) in
    extent-take s bits b.0 b.1 ∙ (rw e at (again bits))

-- ---- the bits that an extent goes by

pub spared-near : (bits : List Bool) (i : ℕ) → Spared bits i → i < least_bits
spared-near bits i (inl h) = omega arith
spared-near bits i (inr h) = omega arith

-- what is spared goes by the PDU's own bits
pub spared_own : (s : ℕ) (bits : List Bool) (i : ℕ) → least_bits ≤ s → Spared bits i → Spared (take s bits) i
spared_own s bits i h x = x

-- as many bits left, and the same spared bits: the same extent
pub extent-spared : (r r' : List Bool) → length r ≡ length r' → ((i : ℕ) → Spared r i → get_or r i false ≡ get_or r' i false)
    → extent r ≡ extent r'
unfolding extent
extent-spared r r' e h =
    rw (
      e,
      field-same 0 2 r r' e (λ i _ u. h i (inl (omega arith))),
      field-same length_at 6 r r' e (λ i u v. h i (inr (u, omega arith))),
      field-same address_type_at 3 r r' e (λ i u v. h i (inr (omega arith, omega arith))),
    )

-- how a codec keeps its law `ends`: 16 bits or more of type 0, and no null address, end their PDU by the length field
pub extent_resource : (bits : List Bool) (l : ℕ) → least_bits ≤ length bits → pdu_type bits ≡ 0 → length_field bits ≡ l → (address_type bits ≡ 0 → ⊥)
    → extent bits ≡ resource_extent (length bits) l
unfolding extent extent_of
extent_resource bits l h type len address = rw (type, len, ne_eqb (address_type bits) 0 address, le-ltb (length bits) least_bits h)
