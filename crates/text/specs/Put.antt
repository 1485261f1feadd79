-- Text that is put into lent bytes.
use Rattle.std.specs.Prelude.{◌≡◌, List, [], ◌∷◌, ◌++◌, ℕ, suc, ◌+◌, ◌-◌, ◌≤◌, min, length, drop, set}
use Rattle.text.specs.declared.Text.{Text}

-- the bytes d with xs in the places from `at` on; a place behind d's end has no byte (`set` leaves d as it is)
unfoldable pub put : (d : List ℕ) (at : ℕ) (xs : List ℕ) → List ℕ
put d at [] = d
put d at (x ∷ xs) = put (set d at x) (suc at) xs

-- the text xs, of at most `most` bytes, was put into d at `at`: d became e, and r is the place behind the text, or d's end where that cuts it
-- off
pub record PutAt (most : ℕ) (d : List ℕ) (at : ℕ) (xs : List ℕ) (r : ℕ) (e : List ℕ) : Type 0 where
  pub place : r ≡ at + min (length xs) (length d - at)
  pub bytes : e ≡ put d at xs
  pub short : length xs ≤ most

-- the text xs, of at most `most` bytes, was put at t's place, and t became u, over the same lent bytes
pub record Put (most : ℕ) (t : Text) (xs : List ℕ) (u : Text) : Type 0 where
  pub same : u.out.ghost_name ≡ t.out.ghost_name
  pub there : PutAt most t.out.now t.at xs u.at u.out.now

-- the whole text xs stands at the start of bytes that had room for it: d became e, and the text has r bytes
pub record AtStart (d xs : List ℕ) (r : ℕ) (e : List ℕ) : Type 0 where
  pub count : r ≡ length xs
  pub bytes : e ≡ xs ++ drop r d
