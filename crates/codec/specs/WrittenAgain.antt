-- What was read, written again, gives the bits that were read: how a reader's value stands to the bits that it took.
use Rattle.std.specs.Prelude.{ℕ, ◌^◌, ◌<◌, ◌≡◌, List, [], ◌++◌, Bool, true, false, length}
use Rattle.bits.specs.Bits.{bits_of_nat}
use Rattle.tetra_core.specs.BitBuffer.{moved}
use Rattle.tetra_core.specs.Laws.Windows.{Good}
use Rattle.tetra_core.specs.declared.bitbuffer.Cursor.{Cursor}
use Rattle.codec.specs.Reader.{got, Reader, done, refuse, field, here, choose, parse}
use Rattle.codec.specs.Header.{within}

-- whatever the fields of a reader hold, the value that it gives and the bits of its fields are in P
abbrev pub Every : {A : Type 0} → Reader A → (A → List Bool → Type 0) → Type 0
Every (done a) P = P a []
Every (refuse j at) P = Unit {0}
Every (here k) P = (o : ℕ) → Every (k o) P
Every (field w k) P = (v : ℕ) → v < 2 ^ w → Every (k v) (λ a xs. P a (bits_of_nat w v ++ xs))
Every (choose b p q) P = (b ≡ true → Every p P) × (b ≡ false → Every q P)

-- ---- in bytes: what was read at a cursor and is written there again changes nothing

-- what is known where a call that reads answers the value v and the cursor d
pub record ReadAt {A : Type 0} (p : Reader A) (s : List ℕ) (c : Cursor) (v : A) (d : Cursor) : Type 0 where
  pub good : Good (length s) c
  pub rest : List Bool
  pub count : ℕ
  pub seen : parse p (within s c) 0 ≡ got v rest count
  pub after : d ≡ moved c count
