-- "later bytes are not read": a listing goes by no byte behind those that are read.
use mathlib.Core.Path.{◌≡◌, refl, sym, ap, ◌∙◌}
use mathlib.Core.Bool.{false}
use mathlib.Core.List.{List, [], ◌∷◌}
use Prim.Native.Nat.{ℕ, ◌+◌, ◌*◌, ◌/◌, ◌≤◌, ◌<◌}
use native.Mathlib.Decide.{dec_le}
use native.Mathlib.Omega.{arith}
use borrow.Author.Tests.{le-leb, lt-leb}
use lib.ListN.{length, take}
use lib.Seq.{take_all, take-take, length-take-le}
use Rattle.bits.specs.Bits.{bits_of, bits_at}
use Rattle.bits.proofs.Laws.Bytes.{take_bits_of}
use Rattle.block_rules.specs.Numbers.{most_bits}
use Rattle.block_rules.specs.Walk.{good_block, walk_from}
use Rattle.block_rules.specs.Downlink.{downlink_reader}
use Rattle.block_rules.specs.Demand3.{IsBlock}
use Rattle.block_rules.proofs.Laws.Walks.{from}
use Rattle.block_rules.proofs.Laws.Blocks.{block, good-block, walk_block}
use Rattle.block_walk.specs.Positions.{walk_on, rest_from}
use Rattle.block_lines.specs.Line.{lines_from}
use Rattle.block_lines.specs.Listing.{block_text, listing_text}
use Rattle.block_lines.specs.File.{bit_count, file_text, block_bytes, file_bytes}
use Rattle.block_lines.proofs.Files.{bytes_of, text_of, part_of}

-- ---- a block's listing goes by the bytes that hold its bits

module _ (v : List ℕ) (n k : ℕ) (limit : n ≤ most_bits) (enough : n ≤ 8 * k) (there : k ≤ length v) where
  in_all : IsBlock n v
  in_all = record { limit = limit; inside = omega arith }

  in_part : IsBlock n (take k v)
  in_part = record { limit = limit; inside = rw (length-take-le k v there) enough }

  same_bits : block n (take k v) ≡ block n v
  unfolding bits_at
  same_bits = ap (take n) (sym (take_bits_of k v there)) ∙ take-take n (8 * k) (bits_of v) enough

  same_walk : walk_from downlink_reader (take k v) n 0 ≡ walk_from downlink_reader v n 0
  same_walk = walk_block in_part downlink_reader 0 ∙ ap (λ b. from downlink_reader b 0) same_bits ∙ sym (walk_block in_all downlink_reader 0)

  same_text : block_text (take k v) n ≡ block_text v n
  unfolding lines_from rest_from walk_on
  same_text = rw same_walk

  same-listing : listing_text (take k v) n ≡ listing_text v n
  same-listing = rw (good-block in_part, good-block in_all) same_text

over_limit : (n m : ℕ) → most_bits < n → good_block n m ≡ false
unfolding good_block
over_limit n m h = rw (lt-leb n most_bits h)

bytes_in : (n : ℕ) → n ≤ most_bits → block_bytes n ≡ (n + 7) / 8
unfolding block_bytes
bytes_in n h = rw (le-leb n most_bits h)

listing_goes_by : (v : List ℕ) (n : ℕ) → listing_text (take (block_bytes n) v) n ≡ listing_text v n
listing_goes_by v n =
    elim (dec_le n most_bits) [
      | yes limit ↦ rw (bytes_in n limit) (elim (dec_le ((n + 7) / 8) (length v)) [
        | yes there ↦ same-listing v n ((n + 7) / 8) limit (omega arith) there
        | no short ↦ ap (λ w. listing_text w n) (take_all ((n + 7) / 8) v (omega arith))
      ])
      | no over ↦ let h : most_bits < n = omega arith in rw (over_limit n (length (take (block_bytes n) v)) h, over_limit n (length v) h)
    ]

-- ---- a file's by the bytes that are read

pub later_bytes : (f : List ℕ) → file_text (take (file_bytes f) f) ≡ file_text f
later_bytes [] = refl
later_bytes (a ∷ []) = refl
later_bytes (a ∷ b ∷ g) =
    ap (λ k. file_text (take k (a ∷ b ∷ g))) (bytes_of a b g)
    ∙ ap file_text (part_of a b g (block_bytes (bit_count a b)))
    ∙ text_of a b (take (block_bytes (bit_count a b)) g)
    ∙ listing_goes_by g (bit_count a b)
    ∙ sym (text_of a b g)
