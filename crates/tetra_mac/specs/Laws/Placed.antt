-- A reader that refuses only at offsets that it has reached is refused inside the window, so the bit of its refusal fits a status.
use Rattle.std.specs.Prelude.{ℕ, ◌+◌, ◌≤◌, ◌≡◌, refl, List, Bool, true, false, length, drop, leb, Err}
use Rattle.std.proofs.Common.{arith, length-drop, leb-true, leb-false}
use Rattle.tetra_core.specs.BitBuffer.{good_window}
use Rattle.tetra_core.specs.Laws.Windows.{good_facts}
use Rattle.tetra_core.specs.declared.bitbuffer.Cursor.{Cursor}
use Rattle.tetra_core.specs.declared.bitbuffer.Read.{Read}
use Rattle.tetra_core.specs.declared.refusal.Refusal.{Refusal}
use Rattle.codec.specs.Reader.{Out, got, refused, Reader, done, refuse, field, here, choose, ◌>>=◌, parse}
use Rattle.codec.proofs.Laws.Reader.{field-there, field-short}
use Rattle.codec.specs.Header.{within, at_cursor, answered}
use Rattle.codec.proofs.Laws.Header.{length-within}
use Rattle.tetra_mac.specs.Reply.{refused_bit}

-- each refusal of a reader at the offset o stands at an offset reached
abbrev pub Placed : {A : Type 0} → ℕ → Reader A → Type 0
Placed o (done a) = Unit {0}
Placed o (refuse j at) = at ≤ o
Placed o (here k) = Placed o (k o)
Placed o (field w k) = (v : ℕ) → Placed (o + w) (k v)
Placed o (choose b p q) = Placed o p × Placed o q

-- a part, and what follows it
pub placed_bind : {A B : Type 0} (p : Reader A) (f : A → Reader B) (o : ℕ) → Placed o p → ((a : A) (n : ℕ) → o ≤ n → Placed n (f a)) → Placed o (p >>= f)
placed_bind (done a) f o h k = k a o (omega arith)
placed_bind (refuse j at) f o h k = h
placed_bind (here q) f o h k = placed_bind (q o) f o h k
placed_bind (field w q) f o h k = λ v. placed_bind (q v) f (o + w) (h v) (λ a n l. k a n (omega arith))
placed_bind (choose b p q) f o h k = (placed_bind p f o h.0 k, placed_bind q f o h.1 k)

abbrev pub Stops : {A : Type 0} → ℕ → Out A → Type 0
Stops m (got a r n) = Unit {0}
Stops m (refused j at) = at ≤ m

pub stops : {A : Type 0} (p : Reader A) (bs : List Bool) (o m : ℕ) → Placed o p → o + length bs ≤ m → Stops m (parse p bs o)
stops (done a) bs o m h l = tt
stops (refuse j at) bs o m h l = omega arith
stops (here k) bs o m h l = stops (k o) bs o m h l
stops (choose true p q) bs o m h l = stops p bs o m h.0 l
stops (choose false p q) bs o m h l = stops q bs o m h.1 l
stops {A} (field w k) bs o m h l = go (leb w (length bs)) refl (λ v r. stops (k v) r (o + w) m (h v))
  where
    go : (b : Bool) → leb w (length bs) ≡ b → ((v : ℕ) (r : List Bool) → o + w + length r ≤ m → Stops m (parse (k v) r (o + w)))
        → Stops m (parse (field w k) bs o)
    go true e f =
        let w_le = leb-true w (length bs) e in
        rw (field-there w bs o w_le) (f _ (drop w bs) (omega (arith, length-drop w bs)))
    go false e f = rw (field-short w bs o (leb-false w (length bs) e)) (omega arith)

-- the same of a call
pub bit-within : {A : Type 0} (p : Reader A) → Placed 0 p → (s : List ℕ) (c : Cursor) → refused_bit (at_cursor p s c).answer ≤ 65536
bit-within {A} p h s c = go (good_window (length s) c) refl
  where
    at : (o : Out A) → Stops 65536 o → refused_bit (answered c o).answer ≤ 65536
    at (got a r n) z = omega arith
    at (refused j m) z = z

    go : (b : Bool) → good_window (length s) c ≡ b → refused_bit (at_cursor p s c).answer ≤ 65536
    go true e =
        let g = good_facts (length s) c e in
        rw e (at (parse p (within s c) 0) (stops p (within s c) 0 65536 h (omega (arith, length-within s c g))))
    go false e = rw e (at (refused 13 0) (omega arith))

pub offset-fits : {A : Type 0} (p : Reader A) → Placed 0 p → (s : List ℕ) (c : Cursor) {d : Read A} {r : Refusal} → d ≡ at_cursor p s c → d.answer ≡ Err r
    → r.offset ≤ 65536
offset-fits p h s c e a =
    let b : refused_bit (at_cursor p s c).answer ≤ 65536 = bit-within p h s c in
    rw (← e, a) at b
