-- A word stands in front of the bits: each field that fits in what is left of the word x is a part of x, got by a division and a
-- remainder. So code may read several fields as one number while the definition reads them one by one.
use Rattle.std.specs.Prelude.{ℕ, zero, suc, ◌+◌, ◌-◌, ◌/◌, ◌%◌, ◌^◌, List, [], ◌∷◌, ◌++◌, Bool, cond, leb, eqb}
use Rattle.std.proofs.Math.Dec.{when}
use Rattle.bits.specs.Bits.{bits_of_nat}
use Rattle.codec.specs.Reader.{Out, got, refused, Reader, done, refuse, field, here, choose, parse}

-- u bits on
abbrev pub past : ℕ → ℕ → ℕ
past o zero = o
past o (suc u) = o + suc u

-- the w bits of x above its m low bits
abbrev pub part : ℕ → ℕ → ℕ → ℕ
part x zero w = x % 2 ^ w
part x (suc m) w = x / 2 ^ suc m % 2 ^ w

-- by whether bits of a word are left
abbrev pub onward : {A : Type 0} → ℕ → A → A → A
onward zero a b = b
onward (suc n) a b = a

-- what a reader gives where a word x stands in front, of which n bits are left, u bits after the offset o. With numerals for n and the
-- widths it computes to what is left to be read behind the word
abbrev pub parse_word : {A : Type 0} → Reader A → ℕ → ℕ → ℕ → List Bool → ℕ → Out A
parse_word (done a) x n u rest o = got a (bits_of_nat n x ++ rest) (past o u)
parse_word (refuse j at) x n u rest o = refused j at
parse_word (here k) x n u rest o = parse_word (k (past o u)) x n u rest o
parse_word (choose b p q) x n u rest o = cond b (parse_word p x n u rest o) (parse_word q x n u rest o)
parse_word (field w k) x n u rest o =
    cond (leb w n)
    (onward (n - w) (parse_word (k (part x (n - w) w)) x (n - w) (u + w) rest o) (parse (k (part x (n - w) w)) rest (past o (u + w))))
    (parse (field w k) (bits_of_nat n x ++ rest) (past o u))

-- ---- where the bits do not reach

abbrev pub total : List ℕ → ℕ
total [] = 0
total (w ∷ ws) = w + total ws

-- where the first field starts that n bits do not reach to the end of
unfoldable pub short_at : List ℕ → ℕ → ℕ
short_at [] n = 0
short_at (w ∷ ws) n = cond (leb w n) (w + short_at ws (n - w)) 0

-- a reader begins with fields of these widths, whatever their values
abbrev pub Starts : {A : Type 0} → List ℕ → Reader A → Type 0
Starts [] p = Unit {0}
Starts (w ∷ ws) (field v k) = when (eqb v w) ((x : ℕ) → Starts ws (k x))
Starts (w ∷ ws) (here k) = (o : ℕ) → Starts (w ∷ ws) (k o)
Starts (w ∷ ws) (done a) = ⊥
Starts (w ∷ ws) (refuse j at) = ⊥
Starts (w ∷ ws) (choose b p q) = ⊥
