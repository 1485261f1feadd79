-- The headers of a downlink block keep the laws of a codec.
use Rattle.std.specs.Prelude.{◌≡◌, refl, Bool, false, List, ◌++◌, ℕ, ◌≤◌, ◌<◌, length}
use Rattle.std.proofs.Common.{sym, ap, ◌∙◌, arith, length-append}
use Rattle.std.proofs.lemmas.Bool.{lt-leb}
use Rattle.tetra_core.specs.Quantity.{octets_of}
use Rattle.tetra_core.specs.Address as address
use Rattle.tetra_core.specs.declared.address.DownlinkAddress.{DownlinkAddress}
use Rattle.mac_resource.specs.declared.mac_resource.MacResource.{MacResource}
use Rattle.mac_resource.specs.Address.{is_null}
use Rattle.mac_resource.specs.MacResource.{header_bits, header_len, add_refusal}
use Rattle.mac_resource.specs.Laws.MacResource.{add-told, header-length, header-bounds, header-front, header-back, header-fill, header-inside}
use Rattle.block_rules.specs.declared.extent.Extent.{Extent}
use Rattle.block_rules.specs.declared.to_add.LengthIndication.{LengthIndication}
use Rattle.block_rules.specs.Numbers.{most_bits, second_slot_stolen, length_at}
use Rattle.block_rules.specs.Extent.{field, resource_extent, extent}
use Rattle.block_rules.specs.Ending.{length_of, pdu_size}
use Rattle.block_rules.specs.Codec.{Laws}
use Rattle.block_rules.specs.Downlink.{HeaderToAdd, ending_of, downlink_codec}
use Rattle.block_rules.proofs.Laws.Extents.{extent_resource}
use Rattle.block_rules.proofs.Laws.WrittenBack.{counted-size}

-- the length that a writer sets has 6 bits
pub length<64 : (i : LengthIndication) (n : ℕ) → n ≤ most_bits → length_of (ending_of i) n < 64
unfolding length_of ending_of
length<64 LengthIndication.Counted n h = omega arith
length<64 LengthIndication.SecondSlotStolen n h = omega arith
length<64 LengthIndication.FragStart n h = omega arith

-- ---- MAC-RESOURCE

-- an address has a type that is not 0
addressed : (a : DownlinkAddress) → is_null a ≡ false → address.address_type a ≡ 0 → ⊥
addressed DownlinkAddress.NullPdu e = absurd (let z : ◌≡◌ {A = ℕ} 0 1 = cc in omega arith)
addressed (DownlinkAddress.Ssi k v) e = λ z. omega arith
addressed (DownlinkAddress.EventLabel l) e = λ z. omega arith
addressed (DownlinkAddress.Ussi v) e = λ z. omega arith
addressed (DownlinkAddress.Smi v) e = λ z. omega arith
addressed (DownlinkAddress.SsiAndEventLabel k v l) e = λ z. omega arith
addressed (DownlinkAddress.SsiAndUsageMarker k v m) e = λ z. omega arith
addressed (DownlinkAddress.SmiAndEventLabel v l) e = λ z. omega arith

-- its PDU ends by the length that it was written with
by_length : (h : MacResource) (l : ℕ) (f : Bool) → add_refusal h ≡ 0 → l < 64 → (t : List Bool)
    → extent (header_bits h l f ++ t) ≡ resource_extent (length (header_bits h l f ++ t)) l
unfolding field
by_length h l f e lt t =
    let x = header-front h l f lt t in
    extent_resource (header_bits h l f ++ t) l
    (omega (arith, length-append (header_bits h l f) t, header-length h l f, (header-bounds h (add-told h e).0).0)) x.type x.len
    (λ z. addressed h.addr (add-told h e).0 (sym x.address ∙ z))

-- and that length gives the size that the writer took
resource_size : (i : LengthIndication) (left n : ℕ) → 9 ≤ n → n ≤ most_bits → n ≤ left
    → resource_extent left (length_of (ending_of i) n) ≡ Extent.Sized (pdu_size (ending_of i) left n)
unfolding length_of pdu_size ending_of resource_extent
resource_size LengthIndication.SecondSlotStolen left n _ _ _ = refl
resource_size LengthIndication.FragStart left n _ _ _ = refl
resource_size LengthIndication.Counted left n lo hi h = rw (lt-leb second_slot_stolen (octets_of n) (omega arith)) (counted-size left n length_at lo h)

-- ---- the laws

ends : (a : HeaderToAdd) (left n : ℕ) (f : Bool) → add_refusal a.header ≡ 0 → header_len a.header ≤ n → n ≤ most_bits → n ≤ left → (t : List Bool)
    → length (header_bits a.header (length_of (ending_of a.indication) n) f ++ t) ≡ left
    → extent (header_bits a.header (length_of (ending_of a.indication) n) f ++ t) ≡ Extent.Sized (pdu_size (ending_of a.indication) left n)
ends a left n f e lo hi fits t k =
    let l = length_of (ending_of a.indication) n in
    by_length a.header l f e (length<64 a.indication n hi) t ∙ ap (λ z. resource_extent z l) k
    ∙ resource_size a.indication left n (omega (arith, (header-bounds a.header (add-told a.header e).0).0)) hi fits

pub downlink_laws : Laws downlink_codec
downlink_laws = record {
  sized = λ a l f e. header-length a.header l f;
  ends = ends;
  back = λ a n f e hi t. header-back a.header _ f (add-told a.header e).1 (length<64 a.indication n hi) t;
  flagged = λ a l f e. header-fill a.header l f (add-told a.header e).0;
  inside = λ bits h rest n e. header-inside bits e;
}
