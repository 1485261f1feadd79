-- An ACCESS-ASSIGN has 14 bits. One that nothing refuses is read back, and one that is read is not refused and is written as the same
-- bits: so nothing is refused but what no bits can say.
use Rattle.std.specs.Prelude.{ℕ, zero, suc, ◌+◌, ◌*◌, ◌/◌, ◌%◌, ◌≤◌, ◌<◌, ◌≡◌, refl, List, [], ◌∷◌, ◌++◌, Bool, true, false, length, take, drop, leb, Ok}
use Rattle.std.proofs.Common.{sym, ap, ◌∙◌, arith, take-append-drop, length-take-le, take-take, drop-drop, lit<, leb-true, leb-false}
use Rattle.bits.specs.Bits.{bits_of_nat, val, bits_of, bits_at, splice, put_bits, Bytes}
use Rattle.tetra_core.specs.BitBuffer.{good_window, remaining, moved}
use Rattle.tetra_core.specs.Refusal.{first, first-none}
use Rattle.bits.proofs.Laws.Values.{bits_of_nat-val, val_lt}
use Rattle.bits.proofs.Laws.Bytes.{bits_of_inj}
use Rattle.bits.proofs.Laws.Reads.{at-is, length_bits_at}
use Rattle.bits.proofs.Laws.Writes.{bytes-put_bits, bits_of_put_bits}
use Rattle.tetra_core.specs.Laws.Windows.{Good, good_facts}
use Rattle.tetra_core.specs.declared.bitbuffer.Cursor.{Cursor}
use Rattle.tetra_core.specs.declared.bitbuffer.Read.{Read}
use Rattle.codec.specs.Reader.{Out, got, refused, parse}
use Rattle.codec.proofs.Laws.Words.{parse-word, short}
use Rattle.codec.specs.Header.{within}
use Rattle.codec.proofs.Laws.Header.{ends}
use Rattle.codec.specs.Row.{row_bits, RowFits}
use Rattle.codec.proofs.Laws.Row.{length_row, row_is}
use Rattle.codec.specs.Write.{refusal_at}
use Rattle.codec.proofs.Laws.Write.{free, free_test, write_done}
use Rattle.codec.specs.RoundTrip.{parse_row}
use Rattle.codec.proofs.Laws.RoundTrip.{parse_row_lem, written_back}
use Rattle.access_assign.specs.AccessField.{access_field_of}
use Rattle.access_assign.specs.Usage.{dl_usage_of, dl_refusal, ul_marks, ul_usage_of, ul_refusal}
use Rattle.access_assign.specs.AccessAssign.{assign_size, access_assign_of, read_access_assign, access_assign_at, header_number, field_one, field_two, access_assign_refusal, access_assign_row, access_assign_write, access_assign_written}
use Rattle.access_assign.specs.Laws.AccessField.{access_field-back, access_field-again}
use Rattle.access_assign.specs.Laws.Usage.{dl_back, ul_back, dl_again, ul_again}
use Rattle.access_assign.specs.declared.access_assign.AccessAssign.{AccessAssign}
use Rattle.access_assign.specs.declared.access_assign.AccessAssign.TheVariants.{DownlinkCommonControlUplinkCommonOnly, DownlinkDefinedUplinkCommonAndAssigned, DownlinkDefinedUplinkAssignedOnly, DownlinkDefinedUplinkDefined}

pub access_assign_length : (a : AccessAssign) → length (row_bits (access_assign_row a)) ≡ assign_size
unfolding access_assign_row
access_assign_length a = length_row (access_assign_row a)

-- ---- what is written is read back

-- the fields fit, and say the same
record FieldsBack (a : AccessAssign) : Type 0 where
  one : field_one a < 64
  two : field_two a < 64
  back : (second : ℕ) (rest : List Bool) (o : ℕ)
      → parse_row (access_assign_of (header_number a) (field_one a) (field_two a) second) [] 14 rest o ≡ got a rest (o + assign_size)

fields_back : (a : AccessAssign) → access_assign_refusal a ≡ 0 → FieldsBack a
unfolding access_assign_of
fields_back (DownlinkCommonControlUplinkCommonOnly f g) e =
    let x = access_field-back f in
    let y = access_field-back g in
    record { one = x.0; two = y.0; back = λ _ _ _. rw (x.1, y.1) }
fields_back (DownlinkDefinedUplinkCommonAndAssigned u f) e =
    let x = dl_back u e in
    let y = access_field-back f in
    record { one = x.0; two = y.0; back = λ _ _ _. rw (x.1, y.1) }
fields_back (DownlinkDefinedUplinkAssignedOnly u f) e =
    let x = dl_back u e in
    let y = access_field-back f in
    record { one = x.0; two = y.0; back = λ _ _ _. rw (x.1, y.1) }
fields_back (DownlinkDefinedUplinkDefined u w) e =
    let f = first-none (dl_refusal u) _ e in
    let x = dl_back u f.0 in
    let y = ul_back w (first-none (ul_refusal w) [] f.1).0 in
    record { one = x.0; two = y.small; back = λ _ _ _. rw (x.1, y.marks, y.same) }

header-small : (a : AccessAssign) → header_number a < 4
header-small (DownlinkCommonControlUplinkCommonOnly f g) = lit< tt
header-small (DownlinkDefinedUplinkCommonAndAssigned u f) = lit< tt
header-small (DownlinkDefinedUplinkAssignedOnly u f) = lit< tt
header-small (DownlinkDefinedUplinkDefined u w) = lit< tt

module _ (a : AccessAssign) (e : access_assign_refusal a ≡ 0) where
  pub access_assign_fits : RowFits (access_assign_row a)
  unfolding access_assign_row
  access_assign_fits = (header-small a, ((fields_back a e).one, ((fields_back a e).two, tt)))

  -- whatever follows its bits
  pub access_assign_back : (rest : List Bool) (o : ℕ) → parse read_access_assign (row_bits (access_assign_row a) ++ rest) o ≡ got a rest (o + assign_size)
  unfolding read_access_assign access_assign_row
  access_assign_back rest o = rw (parse_row_lem read_access_assign (access_assign_row a) 0 rest o access_assign_fits) ((fields_back a e).back _ _ _)

-- in bytes: what to_bitbuf wrote, from_bitbuf reads at the same cursor
pub access_assign_written-back : (s : List ℕ) (c : Cursor) (a : AccessAssign) → refusal_at (length s) c (access_assign_refusal a) assign_size ≡ 0
    → access_assign_at (access_assign_written s c a) c ≡ record { cursor = moved c assign_size; answer = Ok a }
unfolding access_assign_at
access_assign_written-back s c a e =
    written_back read_access_assign s c (access_assign_refusal a) _ (access_assign_length a) (λ rest. access_assign_back a (free _ _ _ _ e).value rest 0) e

-- ---- what is read is written again

-- an ACCESS-ASSIGN of these three fields, that nothing refuses
record Again (a : AccessAssign) (h x y : ℕ) : Type 0 where
  free : access_assign_refusal a ≡ 0
  header : header_number a ≡ h
  one : field_one a ≡ x
  two : field_two a ≡ y

fields-again : (h one two second : ℕ) (rest : List Bool) (o : ℕ) {a : AccessAssign} {r : List Bool} {n : ℕ} → h < 4 → one < 64 → two < 64
    → parse (access_assign_of h one two second) rest o ≡ got a r n → Again a h one two × (n ≡ o)
unfolding access_assign_of first
fields-again zero one two second rest o {a} lh l1 l2 e =
    let s : a ≡ DownlinkCommonControlUplinkCommonOnly (access_field_of one) (access_field_of two) = cc in
    (rw s (record { free = refl; header = refl; one = access_field-again one l1; two = access_field-again two l2 }), cc)
fields-again (suc zero) one two second rest o {a} lh l1 l2 e =
    let s : a ≡ DownlinkDefinedUplinkCommonAndAssigned (dl_usage_of one) (access_field_of two) = cc in
    let d = dl_again one l1 in
    (rw s (record { free = d.0; header = refl; one = d.1; two = access_field-again two l2 }), cc)
fields-again (suc (suc zero)) one two second rest o {a} lh l1 l2 e =
    let s : a ≡ DownlinkDefinedUplinkAssignedOnly (dl_usage_of one) (access_field_of two) = cc in
    let d = dl_again one l1 in
    (rw s (record { free = d.0; header = refl; one = d.1; two = access_field-again two l2 }), cc)
fields-again (suc (suc (suc zero))) one two second rest o {a} {r} {n} lh l1 l2 e = go (ul_marks two) refl
  where
    go : (b : Bool) → ul_marks two ≡ b → Again a 3 one two × (n ≡ o)
    go true m =
        let f = rw m at e in
        let s : a ≡ DownlinkDefinedUplinkDefined (dl_usage_of one) (ul_usage_of two) = cc in
        let d = dl_again one l1 in
        let u = ul_again two l2 m in
        (rw s (record { free = rw (d.0, u.0); header = refl; one = d.1; two = u.1 }), cc)
    go false m = absurd (let f = rw m at e in let z : ◌≡◌ {A = ℕ} 0 1 = cc in omega arith)
fields-again (suc (suc (suc (suc h)))) one two second rest o lh l1 l2 e = absurd (omega arith)

-- whatever bits are read, wherever they stand
pub access_assign_again : (bs : List Bool) (o : ℕ) {a : AccessAssign} {r : List Bool} {n : ℕ} → parse read_access_assign bs o ≡ got a r n
    → (access_assign_refusal a ≡ 0) × (n ≡ o + assign_size) × (row_bits (access_assign_row a) ≡ take assign_size bs)
unfolding read_access_assign access_assign_row
access_assign_again bs o {a} {r} {n} e = go (leb 14 (length bs)) refl
  where
    go : (b : Bool) → leb 14 (length bs) ≡ b → (access_assign_refusal a ≡ 0) × (n ≡ o + assign_size) × (row_bits (access_assign_row a) ≡ take assign_size bs)
    go false t =
        let h = leb-false 14 (length bs) t in
        let s = short read_access_assign (2 ∷ 6 ∷ 6 ∷ []) bs o (λ _ _ _ _. tt) h in
        absurd (let z : ◌≡◌ {A = ℕ} 0 1 = cc in omega arith)
    go true t =
        let l = length-take-le 14 bs (leb-true 14 (length bs) t) in
        let x = val (take 14 bs) in
        let small : x < 16384 = rw l at (val_lt (take 14 bs)) in
        let w : bits_of_nat 14 x ≡ take 14 bs = rw l at (bits_of_nat-val (take 14 bs)) in
        let whole : bits_of_nat 14 x ++ drop 14 bs ≡ bs = rw w (take-append-drop 14 bs) in
        let f = rw (sym whole, parse-word read_access_assign x 14 0 (drop 14 bs) o) at e in
        let g = fields-again (x / 4096 % 4) (x / 64 % 64) (x % 64) (o + 8) (drop 14 bs) (o + 14) (omega arith) (omega arith) (omega arith) f in
        let i = g.0 in
        let sum : x / 4096 % 4 * 4096 + (x / 64 % 64 * 64 + x % 64) ≡ x = omega arith in
        let row = (row_is (access_assign_row a) (access_assign_fits a i.free)).bits in
        (i.free, g.1, sym row ∙ rw (i.header, i.one, i.two, sum) w)

splice-same : (bs : List Bool) (p n : ℕ) → length (take n (drop p bs)) ≡ n → splice p (take n (drop p bs)) bs ≡ bs
unfolding splice
splice-same bs p n l = rw (l, ← drop-drop n p bs, take-append-drop n (drop p bs), take-append-drop p bs)

-- bits that are put where they stand already
put_same : (s : List ℕ) (c : Cursor) (n : ℕ) → Bytes s → Good (length s) c → c.pos + n ≤ c.end → put_bits s c.pos (take n (within s c)) ≡ s
unfolding within
put_same s c n hb g h =
    let room : c.pos + n ≤ 8 * length s = omega (arith, g) in
    let l = length_bits_at s c.pos n room in
    rw (at-is, take-take n (remaining c) (drop c.pos (bits_of s)) (omega arith), ← at-is s c.pos n)
    (bits_of_inj _ s (bytes-put_bits s c.pos (bits_at s c.pos n)) hb
    (bits_of_put_bits s c.pos (bits_at s c.pos n) (rw l room) ∙ rw at-is (splice-same (bits_of s) c.pos n (rw at-is at l))))

-- in bytes: what from_bitbuf read, to_bitbuf accepts at the same cursor, moves it as far, and changes no byte
pub access_assign_written-again : (s : List ℕ) (c d : Cursor) (a : AccessAssign) → Bytes s
    → access_assign_at s c ≡ record { cursor = d; answer = Ok a }
    → (access_assign_write s c a ≡ record { cursor = d; answer = (Ok tt) }) × (access_assign_written s c a ≡ s)
unfolding access_assign_at
access_assign_written-again s c d a hb e = go (good_window (length s) c) refl (parse read_access_assign (within s c) 0) refl
  where
    go : (b : Bool) → good_window (length s) c ≡ b → (q : Out AccessAssign) → parse read_access_assign (within s c) 0 ≡ q
        → (access_assign_write s c a ≡ record { cursor = d; answer = (Ok tt) }) × (access_assign_written s c a ≡ s)
    go false t q x = absurd (let f = ap (λ (r : Read AccessAssign). r.answer) (rw t at e) in let z : ◌≡◌ {A = ℕ} 0 1 = cc in omega arith)
    go true t (refused j at) x = absurd (let f = ap (λ (r : Read AccessAssign). r.answer) (rw (t, x) at e) in let z : ◌≡◌ {A = ℕ} 0 1 = cc in omega arith)
    go true t (got v r n) x =
        let f = rw (t, x) at e in
        let answer = ap (λ (r : Read AccessAssign). r.answer) f in
        let same : v ≡ a = cc in
        let i = rw same at (access_assign_again (within s c) 0 x) in
        let g = good_facts (length s) c t in
        let room = ends read_access_assign s c g x in
        let n14 : n ≡ 14 = i.1 in
        let moves : moved c 14 ≡ d = rw n14 at (ap (λ (r : Read AccessAssign). r.cursor) f) in
        let p : s ≡ put_bits s c.pos (row_bits (access_assign_row a)) = rw i.2 (sym (put_same s c 14 hb g (omega arith))) in
        let z = free_test (length s) c (access_assign_refusal a) 14 (record { good = g; value = i.0; room = omega arith }) in
        let w = write_done s c _ (access_assign_length a) refl refl z p in
        (rw moves at (sym w.0), sym w.1)
