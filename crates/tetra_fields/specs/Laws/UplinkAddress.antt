-- The uplink address: an address that nothing refuses fits its bits, what was written is read back, and what was read is written again.
use Rattle.std.specs.Prelude.{ℕ, zero, suc, ◌/◌, ◌%◌, ◌^◌, ◌≤◌, ◌<◌, ◌≡◌, refl, [], ◌∷◌, Bool, true, false, cond, get_or, eqb}
use Rattle.std.proofs.Common.{arith, one-mul, le-div_iff_mul-le, div-lt_iff_lt-mul, mod-lt, lit<, lit≤, pow_pos, ltb-true}
use Rattle.tetra_core.specs.Address.{uplink_address_type}
use Rattle.tetra_core.specs.Refusal.{passed}
use Rattle.tetra_core.specs.declared.address.UplinkAddress.{UplinkAddress}
use Rattle.tetra_core.specs.declared.address.UplinkAddress.TheVariants.{Ssi, EventLabel, Ussi, Smi}
use Rattle.codec.proofs.Laws.AllBelow.{numbers}
use Rattle.tetra_fields.specs.declared.enums.uplink_addr_type.UplinkAddrType.TheVariants as Type'
use Rattle.tetra_fields.specs.UplinkAddress.{uplink_type_number, uplink_type_of, uplink_width, uplink_of, uplink_number, uplink_address_refusal, encryption_refusal, normal_uplink}

-- ---- widths

pub width_most : (kind : ℕ) → uplink_width kind ≤ 24
unfolding uplink_width
width_most kind = go (eqb kind 1)
  where
    go : (b : Bool) → cond b 10 24 ≤ 24
    go true = lit≤ tt
    go false = lit≤ tt

pub type_lt : (a : UplinkAddress) → uplink_address_type a < 4
type_lt (Ssi k v) = lit< tt
type_lt (EventLabel l) = lit< tt
type_lt (Ussi v) = lit< tt
type_lt (Smi v) = lit< tt

-- what code tests by a shift: v is no number of n bits, or is one
pub too_wide_lem : (v n : ℕ) → (v / 2 ^ n ≡ 0 → ⊥) → 2 ^ n ≤ v
too_wide_lem v n h = rw one-mul at ((le-div_iff_mul-le {x = 1} {y = v} (pow_pos n)).0 (omega (arith, h)))

pub narrow : (v n : ℕ) → v / 2 ^ n ≡ 0 → v < 2 ^ n
narrow v n e = rw one-mul at ((div-lt_iff_lt-mul {x = v} {y = 1} (pow_pos n)).0 (omega arith))

-- an address that is not refused fits its bits
pub number_fits : (a : UplinkAddress) → uplink_address_refusal a ≡ 0 → uplink_number a < 2 ^ uplink_width (uplink_address_type a)
unfolding uplink_address_refusal
number_fits a e = ltb-true (uplink_number a) (2 ^ uplink_width (uplink_address_type a)) (passed _ 2 e)

-- what is not encrypted is not refused for it
pub clear_free : (a : UplinkAddress) → encryption_refusal false a ≡ 0
clear_free (Ssi k v) = refl
clear_free (EventLabel l) = refl
clear_free (Ussi v) = refl
clear_free (Smi v) = refl

-- ---- what was written is read back, up to the kind of an SSI

pub address-back : (a : UplinkAddress) → uplink_of (uplink_address_type a) (uplink_number a) ≡ normal_uplink a
unfolding uplink_of
address-back (Ssi k v) = refl
address-back (EventLabel l) = refl
address-back (Ussi v) = refl
address-back (Smi v) = refl

-- ---- what was read has the type and the number that it was read of

pub uplink_type-again : (v : ℕ) → uplink_type_number (uplink_type_of v) ≡ v % 4
unfolding uplink_type_of
uplink_type-again v =
    numbers uplink_type_number (λ k. get_or (Type'.Ssi ∷ Type'.EventLabel ∷ Type'.Ussi ∷ []) k Type'.Smi) 4 refl (v % 4) (mod-lt v (lit< tt))

pub type-again : (kind v : ℕ) → kind < 4 → uplink_address_type (uplink_of kind v) ≡ kind
unfolding uplink_of
type-again kind v = numbers uplink_address_type (λ k. uplink_of k v) 4 refl kind

pub number-again : (kind v : ℕ) → uplink_number (uplink_of kind v) ≡ v
unfolding uplink_of
number-again zero v = refl
number-again (suc zero) v = refl
number-again (suc (suc zero)) v = refl
number-again (suc (suc (suc kind))) v = refl
