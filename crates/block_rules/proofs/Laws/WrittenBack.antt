-- A PDU that was written has the extent and the reading that it must have, whatever stands behind it.
use Rattle.std.specs.Prelude.{◌≡◌, refl, Bool, false, List, ◌++◌, ℕ, zero, suc, ◌+◌, ◌-◌, ◌*◌, ◌≤◌, min, leb, length, replicate}
use Rattle.std.proofs.Common.{ap, append_assoc, append-nil, le_refl, arith, leb-true, leb-false, lt-ltb, le-ltb, length-append}
use Rattle.std.proofs.Math.Decide.{dec_lt}
use Rattle.std.proofs.lemmas.List.{length-replicate}
use Rattle.std.proofs.Math.Seq.{drop_at}
use Rattle.bits.specs.Bits.{val, bits_of_nat, odd}
use Rattle.bits.proofs.Laws.Values.{length-bits_of_nat}
use Rattle.tetra_core.specs.Quantity.{octets_of}
use Rattle.block_rules.specs.declared.extent.Extent.{Extent}
use Rattle.block_rules.specs.Numbers.{most_bits, least_bits, length_at, address_type_at}
use Rattle.block_rules.specs.Extent.{field, counted_extent, extent_of, extent}
use Rattle.block_rules.specs.Ending.{Ending, length_of, pdu_size}
use Rattle.block_rules.specs.Codec.{Codec, Laws}
use Rattle.block_rules.specs.Read.{Reading, behind_header, read_own}
use Rattle.block_rules.specs.Writer.{flag_of, fill_bits, null_bits, finish_bits, Writer, Add, content_of, total_of, length_in, size_of, fill_of, added_bits}
use Rattle.block_rules.specs.Run.{as_read}
use Rattle.block_rules.proofs.Laws.Lists.{cond_ind, field-append, length-fill, before-fill}
use Rattle.block_rules.proofs.Laws.Extents.{Bounds, bounds}
use Rattle.block_rules.proofs.Laws.Refusals.{Free}

-- ---- the size that a writer takes

-- header and content fit in it, and it fits in what is left
pub size-bounds : (i : Ending) (left n : ℕ) → n ≤ left → (n ≤ pdu_size i left n) × (pdu_size i left n ≤ left)
unfolding pdu_size
size-bounds Ending.Counted left n h = omega arith
size-bounds (Ending.WithBlock mark) left n h = (h, le_refl left)

-- a length that was counted gives the size that the writer took
pub counted-size : (left n o : ℕ) → 9 ≤ n → n ≤ left → counted_extent left (octets_of n) o ≡ Extent.Sized (min (8 * octets_of n) left)
unfolding counted_extent
counted-size left n o lo h =
    rw (le-ltb (octets_of n) 2 (omega arith), lt-ltb (8 * octets_of n) (left + 8) (omega arith))
    (cond_ind (λ f. f ≡ Extent.Sized (min (8 * octets_of n) left)) (leb (8 * octets_of n) left) _ _
    (λ e. ap Extent.Sized (omega (arith, leb-true (8 * octets_of n) left e)))
    (λ e. ap Extent.Sized (omega (arith, leb-false (8 * octets_of n) left e))))

-- ---- an add

-- what nothing refuses has room for a PDU: else no reader would find one there
pub enough : {A H : Type 0} (C : Codec A H) → Laws C → (a : A) (left n : ℕ) → C.writer.check a ≡ 0
    → C.writer.header_len a ≤ n → n ≤ most_bits → n ≤ left → least_bits ≤ left
unfolding Bounds
enough C L a left n fine lo hi fits =
    let l : ℕ = length_of (C.writer.ending a) n in
    let bits : List Bool = C.writer.write_header a l false ++ replicate (left - C.writer.header_len a) false in
    let long : length bits ≡ left = simp (length-append, length-replicate, L.sized a l false fine) (omega arith) in
    let b : (least_bits ≤ pdu_size (C.writer.ending a) left n) × (pdu_size (C.writer.ending a) left n ≤ length bits) =
    rw (L.ends a left n false fine lo hi fits _ long) at (bounds bits) in
    omega (arith, b.0, b.1, long)

-- fill and its flag, behind content
behind-fill : {H : Type 0} (h : H) (m : ℕ) (c : List Bool) (f : ℕ) → behind_header h m (flag_of f) (c ++ fill_bits f) ≡ Reading.read h m c f
unfolding behind_header flag_of fill_bits
behind-fill h m c zero = ap (λ l. Reading.read h m l 0) (append-nil c)
behind-fill h m c (suc f) =
    rw (lt-ltb 0 (suc f) (omega arith), before-fill c f, behind_header)
    (ap (Reading.read h m c) (omega (arith, length-append c (fill_bits (suc f)), length-fill (suc f))))

module _ {A H : Type 0} (C : Codec A H) (L : Laws C) (n : ℕ) (w : Writer) (a : Add A) (free : Free C.writer n w a) where
  abbrev left : ℕ
  left = n - w.bit

  abbrev fill : ℕ
  fill = fill_of C.writer left a

  abbrev l : ℕ
  l = length_in C.writer a

  abbrev head : List Bool
  head = C.writer.write_header a.header l (flag_of fill)

  abbrev body : List Bool
  body = content_of a ++ fill_bits fill

  size_in_lem : (total_of C.writer a ≤ size_of C.writer left a) × (size_of C.writer left a ≤ left)
  size_in_lem = size-bounds (C.writer.ending a.header) left (total_of C.writer a) free.fits

  pub length_added : length (added_bits C.writer left a) ≡ size_of C.writer left a
  unfolding added_bits
  length_added = simp (length-append, length-fill, free.given, L.sized a.header l (flag_of fill) free.fine) (omega (arith, size_in_lem))

  pub read_added : read_own C.reader (added_bits C.writer left a) ≡ as_read C a.header l (content_of a) fill
  unfolding added_bits as_read read_own
  read_added =
      rw (
        L.back a.header (total_of C.writer a) (flag_of fill) free.fine free.small body,
        read_own,
        L.flagged a.header l (flag_of fill) free.fine,
        drop_at head body (C.writer.header_len a.header) (L.sized a.header l (flag_of fill) free.fine),
      )
      (behind-fill (C.normal a.header l (flag_of fill)) (C.writer.header_len a.header) (content_of a) fill)

  pub extent_added : (t : List Bool) → length (added_bits C.writer left a ++ t) ≡ left
      → extent (added_bits C.writer left a ++ t) ≡ Extent.Sized (size_of C.writer left a)
  unfolding added_bits
  extent_added t e =
      rw (append_assoc head body t)
      (L.ends a.header left (total_of C.writer a) (flag_of fill) free.fine (omega arith) free.small free.fits (body ++ t)
      (rw (append_assoc head body t) at e))

-- ---- a finish

length-null : length null_bits ≡ least_bits
unfolding null_bits
length-null = length-bits_of_nat least_bits _

pub length-finish : (left : ℕ) → length (finish_bits left) ≡ left
unfolding finish_bits
length-finish left =
    elim (dec_lt left least_bits) [
      | yes h ↦ rw (lt-ltb left least_bits h) (length-fill left)
      | no h ↦ rw (le-ltb left least_bits (omega arith), length-append, length-null, length-fill) (omega arith)
    ]

extent-null : (t : List Bool) → extent (null_bits ++ t) ≡ Extent.Null 2
unfolding extent extent_of
extent-null t =
    rw (
      field-append 0 2 null_bits t (omega (arith, length-null)),
      field-append length_at 6 null_bits t (omega (arith, length-null)),
      field-append address_type_at 3 null_bits t (omega (arith, length-null)),
      le-ltb (length (null_bits ++ t)) least_bits (omega (arith, length-append null_bits t, length-null)),
    )
    (unfold field val null_bits bits_of_nat odd in refl)

pub extent-finish : (left : ℕ) → least_bits ≤ left → extent (finish_bits left) ≡ Extent.Null 2
unfolding finish_bits
extent-finish left h = rw (le-ltb left least_bits h) (extent-null (fill_bits (left - least_bits)))
