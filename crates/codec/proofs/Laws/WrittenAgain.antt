-- The laws of specs/WrittenAgain.antt.
use Rattle.std.specs.Prelude.{ℕ, ◌+◌, ◌-◌, ◌*◌, ◌^◌, ◌≤◌, ◌<◌, ◌≡◌, refl, List, [], ◌++◌, Bool, true, false, length, take, drop, leb, Ok}
use Rattle.std.proofs.Common.{sym, ap, ◌∙◌, subst, append_assoc, arith, take-append-drop, length-take-le, take-add, take-take, drop-drop, leb-true, leb-false}
use Rattle.std.proofs.Math.Nat.{sub_self}
use Rattle.bits.specs.Bits.{val, bits_of_nat, bits_of, splice, bits_at, put_bits, Bytes}
use Rattle.bits.proofs.Laws.Bytes.{bits_of_inj}
use Rattle.bits.proofs.Laws.Reads.{at-is, length_bits_at}
use Rattle.bits.proofs.Laws.Values.{val_lt, bits_of_nat-val}
use Rattle.bits.proofs.Laws.Writes.{bits_of_put_bits, bytes-put_bits}
use Rattle.tetra_core.specs.BitBuffer.{good_window, remaining}
use Rattle.tetra_core.specs.Laws.Windows.{good_facts}
use Rattle.tetra_core.specs.declared.bitbuffer.Cursor.{Cursor}
use Rattle.tetra_core.specs.declared.bitbuffer.Read.{Read}
use Rattle.codec.specs.Reader.{Out, got, refused, Reader, done, refuse, field, here, choose, parse, ◌>>=◌}
use Rattle.codec.proofs.Laws.Reader.{field-there, field-short, inside}
use Rattle.codec.specs.Header.{within, answered, at_cursor}
use Rattle.codec.proofs.Laws.Header.{ends}
use Rattle.codec.specs.Write.{write_at, written_at}
use Rattle.codec.proofs.Laws.Write.{free_test, write_done}
use Rattle.codec.specs.WrittenAgain.{Every, ReadAt}

-- then what is read and the bits that were taken for it are in P
pub every_read : {A : Type 0} (p : Reader A) (P : A → List Bool → Type 0) → Every p P → (bs : List Bool) (o : ℕ) {a : A} {r : List Bool} {n : ℕ}
    → parse p bs o ≡ got a r n → P a (take (n - o) bs)
every_read (done b) P h bs o {a} {r} {n} e =
    let x : n ≡ o = cc in
    let y : a ≡ b = cc in
    rw (x, sub_self, y) h
every_read (refuse j at) P h bs o e = absurd (let z : ◌≡◌ {A = ℕ} 0 1 = cc in omega arith)
every_read (here k) P h bs o e = every_read (k o) P (h o) bs o e
every_read (choose true p q) P h bs o e = every_read p P (h.0 refl) bs o e
every_read (choose false p q) P h bs o e = every_read q P (h.1 refl) bs o e
every_read {A} (field w k) P h bs o {a} {r} {n} e = go (leb w (length bs)) refl (λ v l cs. every_read (k v) (λ b xs. P b (bits_of_nat w v ++ xs)) (h v l) cs (o + w))
  where
    go : (b : Bool) → leb w (length bs) ≡ b
        → ((v : ℕ) → v < 2 ^ w → (cs : List Bool) → parse (k v) cs (o + w) ≡ got a r n → P a (bits_of_nat w v ++ take (n - (o + w)) cs))
        → P a (take (n - o) bs)
    go true t f =
        let l = leb-true w (length bs) t in
        let d = rw (field-there w bs o l) at e in
        let i = rw d at (inside (k (val (take w bs))) (drop w bs) (o + w)) in
        let m : n - o ≡ w + (n - (o + w)) = omega (arith, i.0) in
        let c = length-take-le w bs l in
        let x : bits_of_nat w (val (take w bs)) ≡ take w bs = rw c at (bits_of_nat-val (take w bs)) in
        rw (m, take-add w (n - (o + w)) bs, ← x) (f (val (take w bs)) (rw c at (val_lt (take w bs))) (drop w bs) d)
    go false t f = absurd (let d = rw (field-short w bs o (leb-false w (length bs) t)) at e in let z : ◌≡◌ {A = ℕ} 0 1 = cc in omega arith)

-- the bits of a reader with a part of its own, which is in Q: the part's bits, then those of what follows
pub every_bind : {A B : Type 0} (p : Reader A) (f : A → Reader B) (Q : A → List Bool → Type 0) (P : B → List Bool → Type 0) → Every p Q
    → ((a : A) (xs : List Bool) → Q a xs → Every (f a) (λ b ys. P b (xs ++ ys))) → Every (p >>= f) P
every_bind (done a) f Q P h g = g a [] h
every_bind (refuse j at) f Q P h g = tt
every_bind (here k) f Q P h g = λ o. every_bind (k o) f Q P (h o) g
every_bind (choose b p q) f Q P h g = (λ e. every_bind p f Q P (h.0 e) g, λ e. every_bind q f Q P (h.1 e) g)
every_bind (field w k) f Q P h g =
    λ v l. every_bind (k v) f (λ a xs. Q a (bits_of_nat w v ++ xs)) (λ b xs. P b (bits_of_nat w v ++ xs)) (h v l)
    (λ a xs z. subst (Every (f a)) (λ i b ys. P b (append_assoc (bits_of_nat w v) xs ys i)) (g a (bits_of_nat w v ++ xs) z))

pub read_at : {A : Type 0} (p : Reader A) (s : List ℕ) (c d : Cursor) (v : A)
    → at_cursor p s c ≡ record { cursor = d; answer = Ok v } → ReadAt p s c v d
read_at {A} p s c d v e = window (good_window (length s) c) refl
  where
    read_as : A → Read A
    read_as a = record { cursor = d; answer = Ok a }

    header : (o : Out A) → parse p (within s c) 0 ≡ o → good_window (length s) c ≡ true → answered c o ≡ read_as v → ReadAt p s c v d
    header (got a r n) f g q =
        let u = ap (λ (t : Read A). t.answer) q in
        let t : a ≡ v = cc in
        record { good = good_facts (length s) c g; rest = r; count = n; seen = rw t at f; after = sym (ap (λ (t : Read A). t.cursor) q) }
    header (refused j m) f g q = absurd (let u = ap (λ (t : Read A). t.answer) q in cc)

    window : (b : Bool) → good_window (length s) c ≡ b → ReadAt p s c v d
    window true g = header (parse p (within s c) 0) refl g (rw g at e)
    window false g = absurd (let u = ap (λ (t : Read A). t.answer) (rw g at e) in cc)

put_same : (s : List ℕ) (p n : ℕ) → Bytes s → p + n ≤ 8 * length s → put_bits s p (bits_at s p n) ≡ s
unfolding splice bits_at
put_same s p n b h =
    let l : length (take n (drop p (bits_of s))) ≡ n = length_bits_at s p n h in
    bits_of_inj (put_bits s p (bits_at s p n)) s (bytes-put_bits s p (bits_at s p n)) b
    (bits_of_put_bits s p (bits_at s p n) (rw l h) ∙ rw (l, ← drop-drop n p (bits_of s), take-append-drop, take-append-drop))

-- the bits that were read are those between the two cursors
pub read-bits : {A : Type 0} {p : Reader A} {s : List ℕ} {c d : Cursor} {v : A} (h : ReadAt p s c v d) → take h.count (within s c) ≡ bits_at s c.pos (d.pos - c.pos)
unfolding within
read-bits {p = p} {s} {c} {d} h =
    let g = h.good in
    let room = ends p s c g h.seen in
    let n : d.pos - c.pos ≡ h.count = rw h.after (omega arith) in
    rw (n, at-is, at-is, take-take h.count (remaining c) (drop c.pos (bits_of s)) (omega arith))

-- the bits xs of the value that was read are written at the same cursor
pub written-again : {A : Type 0} {p : Reader A} {s : List ℕ} {c d : Cursor} {v : A} (h : ReadAt p s c v d) (xs : List Bool) {j : ℕ} → Bytes s
    → xs ≡ take h.count (within s c) → j ≡ 0 → (write_at s c j xs ≡ record { cursor = d; answer = (Ok tt) }) × (written_at s c j xs ≡ s)
written-again {p = p} {s} {c} {d} h xs {j} b e z =
    let g = h.good in
    let n = h.count in
    let room = ends p s c g h.seen in
    let same : xs ≡ bits_at s c.pos n = e ∙ read-bits h ∙ rw h.after (ap (bits_at s c.pos) (omega arith)) in
    let l : length xs ≡ n = ap length same ∙ length_bits_at s c.pos n (omega arith) in
    let w = write_done s c xs {j = j} l refl refl (free_test (length s) c j n (record { good = g; value = z; room = room }))
    (sym (put_same s c.pos n b (omega arith)) ∙ ap (put_bits s c.pos) (sym same)) in
    (rw h.after (sym w.0), sym w.1)
