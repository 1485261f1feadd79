-- What is read, written again, gives the bits that were read, wherever nothing was cleared.
use Rattle.std.specs.Prelude.{ℕ, zero, suc, ◌-◌, ◌^◌, ◌<◌, ◌≡◌, refl, List, [], ◌∷◌, ◌++◌, Bool, true, false, not, take, eqb, Ok}
use Rattle.std.proofs.Common.{sym, ap, ◌∙◌, append-nil, true≢false, eqb-true, lt-ltb}
use Rattle.std.proofs.lemmas.Bool.{not-false}
use Rattle.tetra_core.specs.Refusal.{unless, first}
use Rattle.tetra_core.specs.declared.address.DownlinkAddress.{DownlinkAddress}
use Rattle.tetra_core.specs.declared.bitbuffer.Cursor.{Cursor}
use Rattle.codec.specs.Reader.{got, parse}
use Rattle.codec.specs.Header.{within}
use Rattle.codec.specs.Row.{row_bits}
use Rattle.codec.specs.WrittenAgain.{Every}
use Rattle.codec.proofs.Laws.WrittenAgain.{every_read, every_bind, read_at}
use Rattle.codec.proofs.Laws.AllBelow.{numbers}
use Rattle.codec.proofs.Laws.Cases.{flag-again}
use Rattle.mac_resource.specs.Address.{addr_type_number, addr_type_of, type_of, is_null, read_address, one, two, address_refusal, address_row, normal_address}
use Rattle.mac_resource.specs.Fixed.{read_fixed, read_behind_type, FixedFits, fixed_row}
use Rattle.optional_elements.specs.Elements.{read_elements}
use Rattle.optional_elements.specs.Laws.Elements.{ElementsAgain, elements_every}
use Rattle.mac_resource.specs.MacResource.{header_of, null_of, read_mac_resource, mac_resource_at, encrypted_refusal, fields_refusal, mac_resource_refusal, header_bits, normal_mac_resource}
use Rattle.mac_resource.specs.Laws.Address.{null_is}
use Rattle.mac_resource.specs.Laws.MacResource.{refused_as}
use Rattle.mac_resource.specs.declared.enums.mac_resource_addr_type.MacResourceAddrType.{MacResourceAddrType}
use Rattle.mac_resource.specs.declared.enums.mac_resource_addr_type.MacResourceAddrType.TheVariants.{NullPdu, Ssi, EventLabel, Ussi, Smi, SsiAndEventLabel, SsiAndUsageMarker, SmiAndEventLabel}
use Rattle.mac_resource.specs.declared.fixed.Fixed.{Fixed}
use Rattle.optional_elements.specs.declared.elements.Elements.{Elements}
use Rattle.mac_resource.specs.declared.mac_resource.MacResource.{MacResource}

-- ---- the first 16 bits

-- they fit, and their bits are xs
abbrev pub FixedAgain : Fixed → List Bool → Type 0
FixedAgain f xs = FixedFits f × (row_bits (fixed_row f) ≡ xs)

addr_type-numbers : (v : ℕ) → v < 8 → addr_type_number (addr_type_of v) ≡ v
unfolding addr_type_of
addr_type-numbers = numbers addr_type_number addr_type_of 8 refl

pub fixed_every : Every read_fixed FixedAgain
unfolding read_fixed read_behind_type fixed_row row_bits
fixed_every _ k hk = (
  λ _. tt,
  λ k0 f hf p hp e he r hr l hl t ht. (
    record { position = hp; encryption = he; len = hl },
    rw (flag-again f hf, flag-again r hr, addr_type-numbers t ht, eqb-true k 0 (not-false _ k0)),
  ),
)

-- ---- the address

-- an address is not refused, it has its type and normal form, and its bits are xs
abbrev pub AddressAgain : MacResourceAddrType → DownlinkAddress → List Bool → Type 0
AddressAgain t a xs = (address_refusal a ≡ 0) × (type_of a ≡ t) × (normal_address a ≡ a) × (row_bits (address_row a) ≡ xs)

pub address_every : (t : MacResourceAddrType) → Every (read_address t) (AddressAgain t)
unfolding read_address one two row_bits first
address_every NullPdu = (refl, refl, refl, refl)
address_every Ssi = λ v hv. (rw (lt-ltb v (2 ^ 24) hv), refl, refl, refl)
address_every EventLabel = λ v hv. (rw (lt-ltb v (2 ^ 10) hv), refl, refl, refl)
address_every Ussi = λ v hv. (rw (lt-ltb v (2 ^ 24) hv), refl, refl, refl)
address_every Smi = λ v hv. (rw (lt-ltb v (2 ^ 24) hv), refl, refl, refl)
address_every SsiAndEventLabel = λ v hv l hl. (rw (lt-ltb v (2 ^ 24) hv, lt-ltb l (2 ^ 10) hl), refl, refl, refl)
address_every SsiAndUsageMarker = λ v hv m hm. (rw (lt-ltb v (2 ^ 24) hv, lt-ltb m (2 ^ 6) hm), refl, refl, refl)
address_every SmiAndEventLabel = λ v hv l hl. (rw (lt-ltb v (2 ^ 24) hv, lt-ltb l (2 ^ 10) hl), refl, refl, refl)

-- ---- the whole

-- a null header keeps the length of its 16 bits alone
pub record Cleared (h : MacResource) (xs : List Bool) : Type 0 where
  pub fixed : Fixed
  pub kind : fixed.addr_type ≡ NullPdu
  pub header : h ≡ null_of fixed.length_ind
  pub bits : row_bits (fixed_row fixed) ≡ xs

-- any other header is refused, if at all, by check 10 or for its length; it is in normal form, and its bits are xs
pub record Same (h : MacResource) (xs : List Bool) : Type 0 where
  pub fields : fields_refusal h 0 ≡ encrypted_refusal h
  pub refusal : mac_resource_refusal h ≡ first (unless (not (eqb h.length_ind 0)) 8 ∷ encrypted_refusal h ∷ [])
  pub normal : normal_mac_resource h h.length_ind h.fill_bits ≡ h
  pub bits : header_bits h h.length_ind h.fill_bits ≡ xs

abbrev pub MacResourceAgain : MacResource → List Bool → Type 0
MacResourceAgain h xs = (is_null h.addr ≡ true → Cleared h xs) × (is_null h.addr ≡ false → Same h xs)

first_only : (j : ℕ) → first (j ∷ 0 ∷ 0 ∷ 0 ∷ 0 ∷ 0 ∷ []) ≡ j
unfolding first
first_only zero = refl
first_only (suc j) = refl

cleared : (f : Fixed) (a : DownlinkAddress) (xs ys : List Bool) → is_null a ≡ true → FixedAgain f xs → AddressAgain f.addr_type a ys
    → MacResourceAgain (null_of f.length_ind) (xs ++ ys)
unfolding row_bits
cleared f a xs ys n hf ha =
    let z = null_is a n in
    let none : ys ≡ [] = sym ha.3 ∙ ap (λ (b : DownlinkAddress). row_bits (address_row b)) z in
    (λ _. record { fixed = f; kind = sym ha.1 ∙ ap type_of z; header = refl; bits = rw (none, append-nil) hf.1 }, λ m. absurd (true≢false m))

same : (f : Fixed) (a : DownlinkAddress) (e : Elements) (xs ys zs : List Bool) → is_null a ≡ false → FixedAgain f xs → AddressAgain f.addr_type a ys → ElementsAgain e zs
    → Same (header_of f a e) (xs ++ (ys ++ zs))
unfolding fields_refusal normal_mac_resource header_bits fixed_row
same f a e xs ys zs n hf ha he =
    let fits = hf.0 in
    let told : fields_refusal (header_of f a e) 0 ≡ encrypted_refusal (header_of f a e) =
    rw (lt-ltb f.pos_of_grant 2 fits.position, lt-ltb f.encryption_mode 4 fits.encryption, ha.0, n, he.0, first_only) in
    record {
      fields = told;
      refusal = refused_as (header_of f a e) n fits.len ∙ ap (λ (j : ℕ). first (unless (not (eqb f.length_ind 0)) 8 ∷ j ∷ [])) told;
      normal = rw (n, ha.2) (ap (header_of f a) he.1);
      bits = rw (n, ha.1, hf.1, ha.3, he.2);
    }

pub mac_resource_every : Every read_mac_resource MacResourceAgain
unfolding read_mac_resource
mac_resource_every =
    every_bind read_fixed _ FixedAgain MacResourceAgain fixed_every
    (λ f xs hf. every_bind (read_address f.addr_type) _ (AddressAgain f.addr_type) _ (address_every f.addr_type)
    (λ a ys ha. (
      λ n. rw append-nil (cleared f a xs ys n hf ha),
      λ n. every_bind read_elements _ ElementsAgain _ elements_every
          (λ e zs he. (λ m. absurd (true≢false (sym m ∙ n)), λ _. rw append-nil (same f a e xs ys zs n hf ha he))),
    )))

pub mac_resource_again : (bs : List Bool) (o : ℕ) {h : MacResource} {r : List Bool} {n : ℕ} → parse read_mac_resource bs o ≡ got h r n → MacResourceAgain h (take (n - o) bs)
mac_resource_again = every_read read_mac_resource MacResourceAgain mac_resource_every

-- at a cursor: a null header that was read has nothing but its length
pub null-read : (s : List ℕ) (c d : Cursor) (h : MacResource) → mac_resource_at s c ≡ record { cursor = d; answer = Ok h }
    → is_null h.addr ≡ true → h ≡ null_of h.length_ind
unfolding mac_resource_at
null-read s c d h e n =
    let r = read_at read_mac_resource s c d h e in
    let k = (mac_resource_again (within s c) 0 r.seen).0 n in
    k.header ∙ ap null_of (sym (ap (λ (x : MacResource). x.length_ind) k.header))
