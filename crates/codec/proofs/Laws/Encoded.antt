-- The laws of specs/Encoded.antt.
use Rattle.std.specs.Prelude.{ℕ, ◌+◌, ◌-◌, ◌*◌, ◌^◌, ◌≤◌, ◌<◌, ◌≡◌, refl, List, [], ◌∷◌, ◌++◌, Bool, false, length, Result, Err}
use Rattle.std.specs.Result.{result_and}
use Rattle.std.proofs.Common.{sym, ap, ◌∙◌, append_assoc, append-nil, add-zero, mod-eq_of_lt, arith, length-append}
use Rattle.bits.specs.Bits.{digit, val, bits_of_nat}
use Rattle.bits.proofs.Laws.Values.{digit_lt, bits-zero, length-bits_of_nat, val-append, val_lt, val-bits_of_nat, bits_of_nat-val}
use Rattle.tetra_core.specs.Refusal.{number, refused_by, numbered, first, first-none, first-and}
use Rattle.tetra_core.specs.declared.refusal.Reason.{Reason}
use Rattle.tetra_core.specs.declared.bitbuffer.Cursor.{Cursor}
use Rattle.tetra_core.specs.declared.bitbuffer.Moved.{Moved}
use Rattle.codec.specs.Write.{write_at, written_at}
use Rattle.codec.proofs.Laws.Write.{write_same}
use Rattle.codec.specs.Piece.{piece_bits, Holds}
use Rattle.codec.proofs.Laws.Piece.{piece_size}
use Rattle.codec.specs.declared.piece.Piece.{Piece}
use Rattle.codec.specs.declared.encoded.Encoded.{Encoded}
use Rattle.codec.specs.declared.encoded.Places.{Places}
use Rattle.codec.specs.declared.encoded.Tail.{Tail}
use Rattle.codec.specs.declared.encoded.EncodedHeader.{EncodedHeader}
use Rattle.codec.specs.Encoded.{pieces_bits, Sound, Encodes, EncodesOne, set_in, front_with, pieces_with, size_of, bits_with, Few, Placed, EncodesHeader, Settable, no_tail, whole_of, EncodesTail, Spaced}

-- ---- what is encoded in one piece

-- what is refused, and what is a piece
pub refused-encodes : (r : Reason) {j n : ℕ} {xs : List Bool} → number r ≡ j → n ≤ 63
    → EncodesOne j n xs (record { judged = Err r; piece = record { value = 0; bits = n } })
refused-encodes r {n = n} e l = record {
  number = e;
  bit_count = add-zero n;
  sound = record { few = (l, tt); fit = λ w. absurd ((numbered r).some w) };
  bits = λ w. absurd ((numbered r).some (e ∙ w));
}

pub piece_encodes : {j n : ℕ} {xs : List Bool} {p : Piece} (r : Result Unit Reason) → refused_by r ≡ j → n ≤ 63 → Holds xs n p
    → EncodesOne j n xs (record { judged = r; piece = p })
piece_encodes {p = p} r e l h = record {
  number = e;
  bit_count = add-zero p.bits ∙ h.size;
  sound = record { few = (omega (arith, h.size), tt); fit = λ _. (h.small, tt) };
  bits = λ _. append-nil (piece_bits p) ∙ h.is;
}

-- and back
one_holds : {j n : ℕ} {xs : List Bool} (e : Encoded) → EncodesOne j n xs e → j ≡ 0 → Holds xs n e.piece
one_holds e x z = record {
  is = sym (append-nil (piece_bits e.piece)) ∙ x.bits z;
  size = sym (add-zero e.piece.bits) ∙ x.bit_count;
  small = (x.sound.fit (x.number ∙ z)).0;
}

-- what is encoded is written as what it is the encoding of
pub encoded_written : (s : List ℕ) (c : Cursor) {j n k : ℕ} {xs : List Bool} {ps : List Piece} {r : Moved} {t : List ℕ} → Encodes j n xs k ps
    → (r ≡ write_at s c k (pieces_bits ps)) × (t ≡ written_at s c k (pieces_bits ps)) → (r ≡ write_at s c j xs) × (t ≡ written_at s c j xs)
encoded_written s c x y = let w = write_same s c _ _ _ _ x.number x.bits in
    (y.0 ∙ w.0, y.1 ∙ w.1)

-- ---- length and fill flag in their places

-- the number of a piece
value-is : {xs : List Bool} {n : ℕ} {p : Piece} → Holds xs n p → p.value ≡ val xs
value-is {p = p} h = sym (ap val (sym h.is) ∙ val-bits_of_nat p.bits p.value ∙ mod-eq_of_lt h.small)

length-is : {xs : List Bool} {n : ℕ} {p : Piece} → Holds xs n p → length xs ≡ n
length-is {p = p} h = ap length (sym h.is) ∙ piece_size p ∙ h.size

list_holds : (xs : List Bool) (n v : ℕ) → length xs ≡ n → val xs ≡ v → Holds xs n (record { value = v; bits = n })
list_holds xs n v l e = rw (← l, ← e) (record { is = bits_of_nat-val xs; size = refl; small = val_lt xs })

val_around : (xs ys : List Bool) (w v : ℕ) → v < 2 ^ w
    → val (xs ++ (bits_of_nat w v ++ ys)) ≡ val xs * 2 ^ (w + length ys) + (v * 2 ^ length ys + val ys)
val_around xs ys w v h = rw (val-append, length-append, length-bits_of_nat, val-append, val-bits_of_nat, mod-eq_of_lt h)

length_around : (xs ys : List Bool) (w v : ℕ) → length (xs ++ (bits_of_nat w v ++ ys)) ≡ length xs + (w + length ys)
length_around xs ys w v = rw (length-append, length-append, length-bits_of_nat)

-- a field that held 0, set
set-field : (xs ys : List Bool) (w v : ℕ) {n : ℕ} {p : Piece} → v < 2 ^ w → 0 < 2 ^ w → Holds (xs ++ (bits_of_nat w 0 ++ ys)) n p
    → Holds (xs ++ (bits_of_nat w v ++ ys)) n (record { value = p.value + v * 2 ^ length ys; bits = n })
set-field xs ys w v {n} {p} h z e =
    let l = length-is e in
    let x = value-is e in
    let m = val_around xs ys w v h in
    let o = val_around xs ys w 0 z in
    list_holds (xs ++ (bits_of_nat w v ++ ys)) n (p.value + v * 2 ^ length ys)
    (omega (arith, l, length_around xs ys w v, length_around xs ys w 0)) (omega (arith, m, o, x))

regroup : (xs ys zs ws : List Bool) → xs ++ (ys ++ (zs ++ ws)) ≡ (xs ++ (ys ++ zs)) ++ ws
regroup xs ys zs ws = rw (append_assoc xs (ys ++ zs) ws, append_assoc ys zs ws)

module _ {at : Places} {xs : ℕ → Bool → List Bool} (s : Spaced at xs) {n : ℕ} {p : Piece} (h : Holds (xs 0 false) n p) where
  -- the front's bits before, between and behind the places
  spaced_length : at.length + length s.behind ≡ n
  spaced_length =
      omega (
        arith,
        length-is h,
        ap length (s.is 0 false),
        length_around s.before (s.between ++ (bits_of_nat 6 0 ++ s.behind)) 1 0,
        length_around s.between s.behind 6 0,
        s.fill,
        s.len,
      )

  pub front-set : (l : ℕ) (f : Bool) → l < 64 → Holds (xs l f) n (set_in at p l f)
  front-set l f k =
      let a = set-field s.before (s.between ++ (bits_of_nat 6 0 ++ s.behind)) 1 (digit f) (digit_lt f) (omega arith) (rw (s.is 0 false) at h) in
      let b = set-field (s.before ++ (bits_of_nat 1 (digit f) ++ s.between)) s.behind 6 l k (omega arith)
      (rw (regroup s.before (bits_of_nat 1 (digit f)) s.between (bits_of_nat 6 0 ++ s.behind)) at a) in
      let y : length s.behind ≡ p.bits - at.length = omega (arith, spaced_length, h.size) in
      let x : length (s.between ++ (bits_of_nat 6 0 ++ s.behind)) ≡ p.bits - at.fill =
      omega (arith, spaced_length, h.size, length_around s.between s.behind 6 0, s.fill, s.len) in
      let v : p.value + digit f * 2 ^ (p.bits - at.fill) + l * 2 ^ (p.bits - at.length) ≡ (set_in at p l f).value = omega arith in
      rw (s.is l f, ← v, ← x, ← y, regroup s.before (bits_of_nat 1 (digit f)) s.between (bits_of_nat 6 l ++ s.behind), h.size) b

-- ---- a header

-- of its front, its rest and its tail
module _ {at : Places} {xs : ℕ → Bool → List Bool} {ys ts : List Bool} {i j m n r : ℕ} (a b : Encoded) {t : Tail} (s : Spaced at xs)
    (x : EncodesOne i m (xs 0 false) a) (y : EncodesOne j n ys b) (w : EncodesTail j r ts t) where
  module _ (k : Result (Unit {0}) Reason) {q o : ℕ} {zs : ℕ → Bool → List Bool} (e : first (refused_by k ∷ first (i ∷ j ∷ []) ∷ []) ≡ q) (g : m + n + r ≡ o) (u : at.length ≤ m)
      (h : (l : ℕ) (f : Bool) → (xs l f ++ ys) ++ ts ≡ zs l f) where
    parts_free : q ≡ 0 → (i ≡ 0) × (j ≡ 0)
    parts_free z =
        let p = first-none i _ (first-none (first (i ∷ j ∷ [])) _ (first-none (refused_by k) _ (e ∙ z)).1).0 in
        (p.0, (first-none j _ p.1).0)

    named : refused_by (whole_of k a b t at).judged ≡ q
    named = rw (first-and k (result_and a.judged b.judged), first-and a.judged b.judged, x.number, y.number) e

    with-length : (l : ℕ) (f : Bool) → l < 64 → Encodes q o (zs l f) (refused_by (whole_of k a b t at).judged) (pieces_with (whole_of k a b t at) l f)
    with-length l f c = record {
      number = named;
      bit_count = omega (arith, x.bit_count, y.bit_count, w.bit_count);
      sound = record {
        few = (x.sound.few.0, (y.sound.few.0, w.sound.few));
        fit = λ z.
            let p = parts_free (sym named ∙ z) in
            ((front-set s (one_holds a x p.0) l f c).small, ((one_holds b y p.1).small, w.sound.fit p.1));
      };
      bits = λ z.
          let p = parts_free z in
          rw ((front-set s (one_holds a x p.0) l f c).is, (one_holds b y p.1).is, w.bits p.1) (sym (append_assoc (xs l f) ys ts) ∙ h l f);
    }

    pub whole-encodes : EncodesHeader q o zs (whole_of k a b t at)
    whole-encodes = record {
      placed = record {
        some = omega (arith, x.bit_count, u, s.fill, s.len);
        len = omega (arith, x.bit_count, u);
        fill = omega (arith, x.bit_count, u, s.fill, s.len);
      };
      encodes = with-length;
    }

pub no_tail_encodes : (j : ℕ) → EncodesTail j 0 [] no_tail
no_tail_encodes j = record {
  number = refl;
  bit_count = refl;
  sound = record { few = (omega arith, (omega arith, tt)); fit = λ _. (omega arith, (omega arith, tt)) };
  bits = λ _. rw bits-zero;
}

pub with_size : (e : EncodedHeader) (l : ℕ) (f : Bool) → length (bits_with e l f) ≡ size_of e
unfolding bits_with
with_size e l f =
    rw (length-append, length-append, length-append, length-append, piece_size (front_with e l f), piece_size e.rest, piece_size e.tail.first, piece_size e.tail.second) (omega arith)

-- a header that is written alone: a length that does not fit refuses it
module _ {j n : ℕ} {xs : ℕ → Bool → List Bool} {e : EncodedHeader} (x : EncodesHeader j n xs e) (l : ℕ) (f : Bool) (k : j ≡ 0 → l < 64) where
  few : Few e
  few = (x.encodes 0 false (omega arith)).sound.few

  judged-as : refused_by e.judged ≡ j
  judged-as = (x.encodes 0 false (omega arith)).number

  pub header-writable : Placed e × Sound (refused_by e.judged) (pieces_with e l f)
  header-writable = (x.placed, record { few = few; fit = λ z. (x.encodes l f (k (sym judged-as ∙ z))).sound.fit z })

  pub header-written : (s : List ℕ) (c : Cursor) {r : Moved} {t : List ℕ}
      → (r ≡ write_at s c (refused_by e.judged) (bits_with e l f)) × (t ≡ written_at s c (refused_by e.judged) (bits_with e l f))
      → (r ≡ write_at s c j (xs l f)) × (t ≡ written_at s c j (xs l f))
  unfolding bits_with
  header-written s c y = let w = write_same s c _ _ _ _ judged-as (λ z. (x.encodes l f (k z)).bits z) in
      (y.0 ∙ w.0, y.1 ∙ w.1)

-- a header that can be put, whatever it is the encoding of
pub settable : {j n : ℕ} {xs : ℕ → Bool → List Bool} {e : EncodedHeader} → EncodesHeader j n xs e → Settable e
settable x = record { placed = x.placed; few = (x.encodes 0 false (omega arith)).sound.few; sound = λ l f h. (x.encodes l f h).sound }
