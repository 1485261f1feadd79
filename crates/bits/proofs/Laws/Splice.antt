-- Bits put in the place of others.
use Rattle.std.specs.Prelude.{ℕ, ◌+◌, ◌≤◌, ◌≡◌, refl, [], List, ◌++◌, Bool, length, take, drop}
use Rattle.std.proofs.Common.{append_assoc, add-zero, add_assoc, arith, length-append, length-drop, take-append-drop, length-take-le, take_at, drop_at, drop-drop}
use Rattle.bits.specs.Bits.{splice}

pub length-splice : (p : ℕ) (xs bs : List Bool) → p + length xs ≤ length bs → length (splice p xs bs) ≡ length bs
unfolding splice
length-splice p xs bs h =
    simp (length-append, length-drop, length-take-le p bs (omega arith)) (omega arith)

pub splice-nil : (p : ℕ) (bs : List Bool) → splice p [] bs ≡ bs
unfolding splice
splice-nil p bs = rw add-zero (take-append-drop p bs)

-- one splice after another that ends where it starts
pub splice-append : (p : ℕ) (xs ys bs : List Bool) → p + length xs ≤ length bs
    → splice (p + length xs) ys (splice p xs bs) ≡ splice p (xs ++ ys) bs
unfolding splice
splice-append p xs ys bs h =
    rw (front, back, append_assoc, append_assoc xs ys)
  where
    lt : length (take p bs) ≡ p
    lt = length-take-le p bs (omega arith)

    seam : length (take p bs ++ xs) ≡ p + length xs
    seam = rw (length-append, lt)

    front : take (p + length xs) (take p bs ++ (xs ++ drop (p + length xs) bs)) ≡ take p bs ++ xs
    front = rw (← append_assoc (take p bs) xs (drop (p + length xs) bs)) (take_at (take p bs ++ xs) _ (p + length xs) seam)

    back : drop (p + length xs + length ys) (take p bs ++ (xs ++ drop (p + length xs) bs)) ≡ drop (p + length (xs ++ ys)) bs
    back =
        rw (
          ← drop-drop (length ys) (p + length xs) (take p bs ++ (xs ++ drop (p + length xs) bs)),
          ← append_assoc (take p bs) xs (drop (p + length xs) bs),
          drop_at (take p bs ++ xs) (drop (p + length xs) bs) (p + length xs) seam,
          drop-drop,
          length-append,
          add_assoc,
        )

-- what was spliced in is there, and the rest is as it was
pub splice_at : (p : ℕ) (xs bs : List Bool) → p ≤ length bs → take (length xs) (drop p (splice p xs bs)) ≡ xs
unfolding splice
splice_at p xs bs h = rw (drop_at (take p bs) _ p (length-take-le p bs h)) (take_at xs _ (length xs) refl)

pub splice-before : (p : ℕ) (xs bs : List Bool) → p ≤ length bs → take p (splice p xs bs) ≡ take p bs
unfolding splice
splice-before p xs bs h = take_at (take p bs) _ p (length-take-le p bs h)

pub splice-after : (p : ℕ) (xs bs : List Bool) → p ≤ length bs → drop (p + length xs) (splice p xs bs) ≡ drop (p + length xs) bs
unfolding splice
splice-after p xs bs h =
    rw (← append_assoc (take p bs) xs (drop (p + length xs) bs))
    (drop_at (take p bs ++ xs) _ (p + length xs) (rw (length-append, length-take-le p bs h)))

-- a part put in the place of one as long
pub splice_mid : (p : ℕ) (a x y z : List Bool) → length a ≡ p → length y ≡ length x → splice p y (a ++ (x ++ z)) ≡ a ++ (y ++ z)
unfolding splice
splice_mid p a x y z e l =
    rw (take_at a (x ++ z) p e, ← append_assoc a x z, drop_at (a ++ x) z (p + length y) (rw (length-append, e, l)))
