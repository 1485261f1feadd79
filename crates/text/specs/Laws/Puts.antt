-- Text behind text is one text; text that has room is there.
use Rattle.std.specs.Prelude.{◌≡◌, refl, List, [], ◌∷◌, ◌++◌, ℕ, suc, ◌+◌, ◌-◌, ◌≤◌, ◌<◌, length, set, take, drop, get_or}
use Rattle.std.proofs.Common.{sym, ◌∙◌, zero-add, arith, add-one, length-append, take-suc, take_all}
use Rattle.std.proofs.Math.Decide.{dec_le}
use Rattle.std.proofs.lemmas.List.Edits.{sets, sets-eq}
use Rattle.std.proofs.Math.Seq.{length-sets, set_out}
use Rattle.text.specs.declared.Text.{Text}
use Rattle.text.specs.Put.{put, PutAt, Put, AtStart}

put_sets : (d : List ℕ) (at : ℕ) (xs : List ℕ) → put d at xs ≡ sets d at xs
unfolding put
put_sets d at [] = refl
put_sets d at (x ∷ xs) = put_sets (set d at x) (suc at) xs

pub length-put : (d : List ℕ) (at : ℕ) (xs : List ℕ) → length (put d at xs) ≡ length d
length-put d at xs = rw put_sets (length-sets d at xs)

put-out : (d : List ℕ) (at : ℕ) (xs : List ℕ) → length d ≤ at → put d at xs ≡ d
unfolding put
put-out d at [] h = refl
put-out d at (x ∷ xs) h = rw (set_out d at x h) (put-out d (suc at) xs (omega arith))

put-append : (d : List ℕ) (at : ℕ) (xs ys : List ℕ) (p : ℕ) → p ≡ at + length xs → put d at (xs ++ ys) ≡ put (put d at xs) p ys
unfolding put
put-append d at [] ys p e = let e' : p ≡ at = omega arith in rw e'
put-append d at (x ∷ xs) ys p e = put-append (set d at x) (suc at) xs ys p (omega arith)

-- ---- a text at a place of lent bytes

module _ {m k : ℕ} {d xs e ys f : List ℕ} {at p r : ℕ} where
  pub then_at : PutAt m d at xs p e → PutAt k e p ys r f → PutAt (m + k) d at (xs ++ ys) r f
  then_at a b =
      record {
        place = simp length-append (omega (arith, a.place, b.place, size));
        bytes = b.bytes ∙ rw a.bytes whole;
        short = simp length-append (omega (arith, a.short, b.short));
      }
    where
      size : length e ≡ length d
      size = rw a.bytes (length-put d at xs)

      whole : put (put d at xs) p ys ≡ put d at (xs ++ ys)
      whole =
          elim (dec_le (length xs) (length d - at)) [
            | yes h ↦ sym (put-append d at xs ys p (omega (arith, a.place)))
            | no h ↦ put-out (put d at xs) p ys (rw length-put (omega (arith, a.place)))
                ∙ sym (put-append d at xs ys (at + length xs) refl ∙ put-out (put d at xs) (at + length xs) ys (rw length-put (omega arith)))
          ]

module _ {m : ℕ} {d xs e : List ℕ} {at r : ℕ} where
  pub sized : PutAt m d at xs r e → length e ≡ length d
  sized a = rw a.bytes (length-put d at xs)

  -- another bound
  pub within_at : (k : ℕ) → length xs ≤ k → PutAt m d at xs r e → PutAt k d at xs r e
  within_at k h a = record { place = a.place; bytes = a.bytes; short = h }

  pub wider_at : (k : ℕ) → m ≤ k → PutAt m d at xs r e → PutAt k d at xs r e
  wider_at k h a = within_at k (omega (arith, a.short)) a

  -- the same text, said otherwise
  pub reads_at : {ys : List ℕ} → xs ≡ ys → PutAt m d at xs r e → PutAt m d at ys r e
  reads_at q a = rw (sym q) a

-- nothing yet
pub nothing_at : (d : List ℕ) (at : ℕ) → PutAt 0 d at [] at d
unfolding put
nothing_at d at = record { place = omega arith; bytes = refl; short = omega arith }

-- one byte more of the bytes w, and all of them
pub more_at : (w : List ℕ) {d e f : List ℕ} {at i p r : ℕ} → i < length w → PutAt i d at (take i w) p e → PutAt 1 e p (get_or w i 0 ∷ []) r f
    → PutAt (i + 1) d at (take (i + 1) w) r f
more_at w {i = i} h a b = rw (add-one, take-suc w i 0 h, ← add-one) (then_at a b)

pub all_at : (w : List ℕ) {d e : List ℕ} {at i p : ℕ} → i ≡ length w → PutAt i d at (take i w) p e → PutAt (length w) d at w p e
all_at w {i = i} q a = rw q at (reads_at (take_all i w (omega arith)) a)

-- ---- the same of a text that holds its bytes and its place

pub then : {m k : ℕ} {t u v : Text} {xs ys : List ℕ} → Put m t xs u → Put k u ys v → Put (m + k) t (xs ++ ys) v
then a b = record { same = b.same ∙ a.same; there = then_at a.there b.there }

module _ {m : ℕ} {t u : Text} {xs : List ℕ} where
  pub within : (k : ℕ) → length xs ≤ k → Put m t xs u → Put k t xs u
  within k h a = record { same = a.same; there = within_at k h a.there }

  pub wider : (k : ℕ) → m ≤ k → Put m t xs u → Put k t xs u
  wider k h a = record { same = a.same; there = wider_at k h a.there }

  pub reads : {ys : List ℕ} → xs ≡ ys → Put m t xs u → Put m t ys u
  reads q a = record { same = a.same; there = reads_at q a.there }

  -- of a text over the bytes d from `at` on, by what those have become and the place behind it
  pub put_at : {d e : List ℕ} {at r : ℕ} → t.out.now ≡ d → t.at ≡ at → Put m t xs u → r ≡ u.at → e ≡ u.out.now → PutAt m d at xs r e
  put_at s p a q b = rw (q, b) (rw (s, p) at a.there)

-- where there is room: the text stands at its place, and nothing else has changed
pub whole : {m : ℕ} {d xs e : List ℕ} {at r : ℕ} → PutAt m d at xs r e → at + m ≤ length d
    → (r ≡ at + length xs) × (e ≡ take at d ++ xs ++ drop (at + length xs) d)
whole {d = d} {xs = xs} {at = at} a h = (omega (arith, a.place, a.short), a.bytes ∙ put_sets d at xs ∙ sets-eq xs d at (omega (arith, a.short)))

pub at-start : {m : ℕ} {d xs e : List ℕ} {r : ℕ} → m ≤ length d → PutAt m d 0 xs r e → AtStart d xs r e
at-start {m} {d} {xs} {e} {r} h a =
    let w = whole a (omega arith) in
    let n : r ≡ length xs = omega (arith, w.0) in
    record { count = n; bytes = rw n (w.1 ∙ rw zero-add) }

pub start-counts : {d xs e : List ℕ} {r : ℕ} → AtStart d xs r e → r ≤ length e
start-counts {d} {xs} {e} {r} a = rw (a.bytes, length-append) (omega (arith, a.count))

pub put_one : (d : List ℕ) (at x : ℕ) → at < length d → PutAt 1 d at (x ∷ []) (at + 1) (set d at x)
unfolding put
put_one d at x h = record { place = omega arith; bytes = refl; short = omega arith }

pub put-none : (d : List ℕ) (at x : ℕ) → length d ≤ at → PutAt 1 d at (x ∷ []) at d
put-none d at x h = record { place = omega arith; bytes = sym (put-out d at (x ∷ []) h); short = omega arith }

-- nothing yet
pub put_nothing : (t : Text) → Put 0 t [] t
put_nothing t = record { same = refl; there = nothing_at t.out.now t.at }

-- one byte more of the bytes w
pub put_more : (w : List ℕ) {t u v : Text} {i : ℕ} → i < length w → Put i t (take i w) u → Put 1 u (get_or w i 0 ∷ []) v → Put (i + 1) t (take (i + 1) w) v
put_more w h a b = record { same = b.same ∙ a.same; there = more_at w h a.there b.there }
