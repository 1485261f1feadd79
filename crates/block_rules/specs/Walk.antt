-- The block, read: one entry a step, and the walk, "all steps from bit 0 to the end, each from the last one's PDU end".
use Rattle.std.specs.Prelude.{Bool, cond, ◌&&◌, List, [], ◌∷◌, ◌++◌, ℕ, zero, suc, ◌+◌, ◌-◌, ◌*◌, leb, length, drop, Option, Some, None}
use Rattle.bits.specs.Bits.{bits_at}
use Rattle.tetra_core.specs.Refusal.{number}
use Rattle.block_rules.specs.declared.extent.Extent.{Extent}
use Rattle.block_rules.specs.Numbers.{most_bits, least_bits}
use Rattle.block_rules.specs.Extent.{extent}
use Rattle.block_rules.specs.Codec.{HeaderReader}
use Rattle.block_rules.specs.Read.{Reading, read_pdu}

-- "0 to 488 bits" inside the lent bytes; 13 else: "bit count over limit or slice"
unfoldable pub good_block : (n bytes : ℕ) → Bool
good_block n bytes = leb n most_bits && leb n (8 * bytes)

-- ---- one entry

-- a PDU, counted from its first bit: null, with its length field; its bits, and what they read as; or the refusal that gives it no end
pub data Pdu (H : Type 0) : Type 0 where
  null : (length : ℕ) → Pdu H
  sized : (bits : ℕ) → Reading H → Pdu H
  unsized : (number offset : ℕ) → Pdu H

-- "The reader gives one entry a step: bit, PDU end, header and content range, or refusal with the PDU's end where it has one."
pub record Entry (H : Type 0) : Type 0 where
  pub bit : ℕ
  pub pdu : Pdu H

module _ {H : Type 0} where
  unfoldable pub end_from : ℕ → Pdu H → Option ℕ
  end_from p (Pdu.null l) = Some (p + least_bits)
  end_from p (Pdu.sized s r) = Some (p + s)
  end_from p (Pdu.unsized j o) = None

  -- "Place is .. the bit, and the end where there is one"
  unfoldable pub place : Entry H → ℕ × Option ℕ
  place e = (e.bit, end_from e.bit e.pdu)

  -- "A PDU's bits run from its bit to its end: 16 for null, to N where a refusal gives no end": how many, where `left` are left to N
  unfoldable pub own_size : (left : ℕ) → Pdu H → ℕ
  own_size left (Pdu.null l) = least_bits
  own_size left (Pdu.sized s r) = s
  own_size left (Pdu.unsized j o) = left

  abbrev pub size_in : (n : ℕ) → Entry H → ℕ
  size_in n e = own_size (n - e.bit) e.pdu

  -- these bits, in a block of n bits
  unfoldable pub own_bits : (n : ℕ) → List ℕ → Entry H → List Bool
  own_bits n v e = bits_at v e.bit (size_in n e)

-- ---- one step

-- the refusal's number and offset, the end, or an entry
pub data Step (H : Type 0) : Type 0 where
  refused : (number offset : ℕ) → Step H
  end : Step H
  entry : Entry H → Step H

module _ {H : Type 0} where
  unfoldable pub step_of : ℕ → Option (Pdu H) → Step H
  step_of p None = Step.end
  step_of p (Some x) = Step.entry (record { bit = p; pdu = x })

  module _ (R : HeaderReader H) where
    unfoldable pub pdu_of : List Bool → Extent → Option (Pdu H)
    pdu_of bits Extent.End = None
    pdu_of bits (Extent.Unsized r) = Some (Pdu.unsized (number r.reason) r.offset)
    pdu_of bits (Extent.Null l) = Some (Pdu.null l)
    pdu_of bits (Extent.Sized s) = Some (Pdu.sized s (read_pdu R bits s))

    -- the PDU that begins these bits, of which the last is the block's
    unfoldable pub first_pdu : List Bool → Option (Pdu H)
    first_pdu bits = pdu_of bits (extent bits)

    -- "A step from a bit past N is refused 13"
    unfoldable pub step_at : List Bool → ℕ → Step H
    step_at block p = cond (leb p (length block)) (step_of p (first_pdu (drop p block))) (Step.refused 13 0)

    -- in a block of n bits in the lent bytes v
    unfoldable pub step : List ℕ → (n p : ℕ) → Step H
    step v n p = cond (good_block n (length v)) (step_at (bits_at v 0 n) p) (Step.refused 13 0)

-- ---- the walk

-- its entries, and the bit where the rest begins
pub record Walk (H : Type 0) : Type 0 where
  pub entries : List (Entry H)
  pub rest_at : ℕ

module _ {H : Type 0} where
  abbrev pub ended : ℕ → Walk H
  ended p = record { entries = []; rest_at = p }

  -- entries in front of a walk
  abbrev pub entries_then : List (Entry H) → Walk H → Walk H
  entries_then es w = record { entries = es ++ w.entries; rest_at = w.rest_at }

  -- a PDU that has an end is walked on from there, read or refused; "Rest is the bits after a null PDU, or from p where the walk ended
  -- otherwise"
  unfoldable pub go_on : (ℕ → Walk H) → ℕ → Pdu H → Walk H
  go_on walk p (Pdu.null l) = ended (p + least_bits)
  go_on walk p (Pdu.sized s r) = walk (p + s)
  go_on walk p (Pdu.unsized j o) = ended p

  -- the walk from bit p, by the step there and the walks from later bits
  unfoldable pub follow : (ℕ → Walk H) → ℕ → Step H → Walk H
  follow walk p (Step.refused j o) = ended p
  follow walk p Step.end = ended p
  follow walk p (Step.entry e) = entries_then (e ∷ []) (go_on walk e.bit e.pdu)

  -- by at most so many steps
  unfoldable pub walk_by : (ℕ → Step H) → ℕ → ℕ → Walk H
  walk_by step zero p = ended p
  walk_by step (suc n) p = follow (walk_by step n) p (step p)

  -- each step but the last moves on by 16 bits or more, so that n + 1 steps are enough
  unfoldable pub walk_from : HeaderReader H → List ℕ → (n p : ℕ) → Walk H
  walk_from R v n p = walk_by (step R v n) (suc n) p

  unfoldable pub walk : HeaderReader H → List ℕ → ℕ → Walk H
  walk R v n = walk_from R v n 0
