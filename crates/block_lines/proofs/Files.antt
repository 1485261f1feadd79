-- The listing of a file, by that of its block.
use mathlib.Core.Path.{◌≡◌}
use mathlib.Core.List.{List, ◌∷◌}
use Prim.Native.Nat.{ℕ, suc, ◌+◌}
use native.Mathlib.Omega.{arith}
use borrow.Author.Tests.{le-ltb}
use lib.ListN.{length, take}
use Rattle.block_lines.specs.Listing.{listing_text}
use Rattle.block_lines.specs.File.{bit_count, file_text, block_bytes, file_bytes}

-- ---- a file that begins with two bytes

module _ (a b : ℕ) where
  pub bytes_of : (g : List ℕ) → file_bytes (a ∷ b ∷ g) ≡ 2 + block_bytes (bit_count a b)
  bytes_of g = rw (le-ltb (length (a ∷ b ∷ g)) 2 (omega arith))

  pub text_of : (g : List ℕ) → file_text (a ∷ b ∷ g) ≡ listing_text g (bit_count a b)
  text_of g = rw (le-ltb (length (a ∷ b ∷ g)) 2 (omega arith))

  pub part_of : (g : List ℕ) (m : ℕ) → take (2 + m) (a ∷ b ∷ g) ≡ a ∷ b ∷ take m g
  part_of g m = let e : 2 + m ≡ suc (suc m) = omega arith in rw e
