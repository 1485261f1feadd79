-- The laws of specs/Reader.antt.
use Rattle.std.specs.Prelude.{ℕ, ◌+◌, ◌-◌, ◌≤◌, ◌<◌, ◌≡◌, refl, List, ◌++◌, Bool, true, false, length, take, drop, leb}
use Rattle.std.proofs.Common.{◌∙◌, append_assoc, arith, length-append, length-drop, length-take-le, take-add, take_at, drop_at, drop-drop, leb-true, leb-false, le-leb}
use Rattle.std.proofs.Math.Nat.{sub_self}
use Rattle.std.proofs.lemmas.Bool.{lt-leb}
use Rattle.bits.specs.Bits.{val}
use Rattle.codec.specs.Reader.{Out, got, refused, next, field_at, Reader, done, refuse, field, here, choose, parse, ◌>>=◌, Inside}

-- ---- a field that is there, that is cut off, and that stands in front

pub field-there : (w : ℕ) (bs : List Bool) (o : ℕ) → w ≤ length bs → field_at w bs o ≡ got (val (take w bs)) (drop w bs) (o + w)
unfolding field_at
field-there w bs o h = rw (le-leb w (length bs) h)

pub field-short : (w : ℕ) (bs : List Bool) (o : ℕ) → length bs < w → field_at w bs o ≡ refused 1 o
unfolding field_at
field-short w bs o h = rw (lt-leb w (length bs) h)

pub field-front : (w : ℕ) (xs rest : List Bool) (o : ℕ) → length xs ≡ w → field_at w (xs ++ rest) o ≡ got (val xs) rest (o + w)
field-front w xs rest o e =
    rw (field-there w (xs ++ rest) o (omega (arith, length-append xs rest)), take_at xs rest w e, drop_at xs rest w e)

-- ---- a reader with a part of its own

pub parse_bind : {A B : Type 0} (p : Reader A) (f : A → Reader B) (bs : List Bool) (o : ℕ) → parse (p >>= f) bs o ≡ next (parse p bs o) (λ a. parse (f a))
parse_bind (done a) f bs o = refl
parse_bind (refuse j at) f bs o = refl
parse_bind (here k) f bs o = parse_bind (k o) f bs o
parse_bind (choose true p q) f bs o = parse_bind p f bs o
parse_bind (choose false p q) f bs o = parse_bind q f bs o
parse_bind {A} {B} (field w k) f bs o = go (field_at w bs o) (λ v r n. parse_bind (k v) f r n)
  where
    go : (q : Out ℕ) → ((v : ℕ) (r : List Bool) (n : ℕ) → parse (k v >>= f) r n ≡ next (parse (k v) r n) (λ a. parse (f a)))
        → next q (λ v. parse (k v >>= f)) ≡ next (next q (λ v. parse (k v))) (λ a. parse (f a))
    go (got v r n) h = h v r n
    go (refused j m) h = refl

field-inside : (w : ℕ) (bs : List Bool) (o : ℕ) → Inside bs o (field_at w bs o)
field-inside w bs o = go (leb w (length bs)) refl
  where
    go : (b : Bool) → leb w (length bs) ≡ b → Inside bs o (field_at w bs o)
    go true e =
        let h = leb-true w (length bs) e in
        let d : o + w - o ≡ w = omega arith in
        rw (field-there w bs o h) (omega arith, omega arith, rw d)
    go false e = rw (field-short w bs o (leb-false w (length bs) e)) tt

further : {A : Type 0} (bs : List Bool) (o n : ℕ) (r : Out A) → o ≤ n → n ≤ o + length bs → Inside (drop (n - o) bs) n r → Inside bs o r
further bs o n (got b r m) h k z =
    let e : n - o + (m - n) ≡ m - o = omega arith in
    (omega arith, omega (arith, length-drop (n - o) bs), z.2 ∙ rw (drop-drop, e))
further bs o n (refused j m) h k z = tt

pub inside : {A : Type 0} (p : Reader A) (bs : List Bool) (o : ℕ) → Inside bs o (parse p bs o)
inside (done a) bs o = (omega arith, omega arith, rw sub_self)
inside (refuse j at) bs o = tt
inside (here k) bs o = inside (k o) bs o
inside (choose true p q) bs o = inside p bs o
inside (choose false p q) bs o = inside q bs o
inside {A} (field w k) bs o = go (field_at w bs o) (field-inside w bs o) (λ v r n. inside (k v) r n)
  where
    go : (q : Out ℕ) → Inside bs o q → ((v : ℕ) (r : List Bool) (n : ℕ) → Inside r n (parse (k v) r n)) → Inside bs o (next q (λ v. parse (k v)))
    go (got v r n) z h = further bs o n (parse (k v) r n) z.0 z.1 (rw z.2 (h v (drop (n - o) bs) n))
    go (refused j m) z h = tt

-- ---- a reader uses no bit outside what it read: whatever stands behind these bits, it gives the same value

pub again : {A : Type 0} (p : Reader A) (bs : List Bool) (o : ℕ) {a : A} {r : List Bool} {n : ℕ} → parse p bs o ≡ got a r n
    → (ys : List Bool) → parse p (take (n - o) bs ++ ys) o ≡ got a ys n
again (done b) bs o {n = n} e ys = let same : n ≡ o = cc in rw (same, sub_self) (cc)
again (refuse j at) bs o e ys = absurd (let z : ◌≡◌ {A = ℕ} 0 1 = cc in omega arith)
again (here k) bs o e ys = again (k o) bs o e ys
again (choose true p q) bs o e ys = again p bs o e ys
again (choose false p q) bs o e ys = again q bs o e ys
again {A} (field w k) bs o {a} {r} {n} e ys = go (leb w (length bs)) refl (λ v cs z. again (k v) cs (o + w) z ys)
  where
    go : (b : Bool) → leb w (length bs) ≡ b
        → ((v : ℕ) (cs : List Bool) → parse (k v) cs (o + w) ≡ got a r n → parse (k v) (take (n - (o + w)) cs ++ ys) (o + w) ≡ got a ys n)
        → parse (field w k) (take (n - o) bs ++ ys) o ≡ got a ys n
    go true t f =
        let h = leb-true w (length bs) t in
        let d = rw (field-there w bs o h) at e in
        let i = rw d at (inside (k (val (take w bs))) (drop w bs) (o + w)) in
        let m : n - o ≡ w + (n - (o + w)) = omega (arith, i.0) in
        rw (m, take-add w (n - (o + w)) bs, append_assoc, field-front w (take w bs) _ o (length-take-le w bs h)) (f (val (take w bs)) (drop w bs) d)
    go false t f = absurd (let d = rw (field-short w bs o (leb-false w (length bs) t)) at e in let z : ◌≡◌ {A = ℕ} 0 1 = cc in omega arith)
