-- "A writer's run is a list of adds (content from other bytes) and finishes on one block of N bits, from bit 0 and any bytes", what was put
-- in by it, and the walk that it must leave.
use Rattle.std.specs.Prelude.{Bool, true, false, cond, List, [], ◌∷◌, map, ℕ, zero, suc, ◌+◌, ◌-◌, ltb, length}
use Rattle.block_rules.specs.Numbers.{least_bits}
use Rattle.block_rules.specs.Ending.{length_of, pdu_size, pdu_fill}
use Rattle.block_rules.specs.Codec.{HeaderWriter, Codec}
use Rattle.block_rules.specs.Read.{Reading}
use Rattle.block_rules.specs.Walk.{Pdu, Entry, Walk, ended, entries_then}
use Rattle.block_rules.specs.Writer.{flag_of, Writer, finish_refusal, finish_to, Add, content_of, total, add_refusal, add_to}

pub data Call (A : Type 0) : Type 0 where
  add : Add A → Call A
  finish : Call A

-- what an accepted add put in, and the bit where
pub record Item (A : Type 0) : Type 0 where
  pub bit : ℕ
  pub header : A
  pub content : List Bool

-- "any bytes", from bit 0
abbrev pub start : List ℕ → Writer
start v = record { bytes = v; bit = 0 }

module _ {A : Type 0} where
  unfoldable pub holds_finish : List (Call A) → Bool
  holds_finish [] = false
  holds_finish (Call.add a ∷ cs) = holds_finish cs
  holds_finish (Call.finish ∷ cs) = true

  abbrev pub item_at : ℕ → Add A → Item A
  item_at p a = record { bit = p; header = a.header; content = content_of a }

  -- an item before others, if the number that refuses it is 0
  unfoldable pub if_accepted : ℕ → Item A → List (Item A) → List (Item A)
  if_accepted zero x xs = x ∷ xs
  if_accepted (suc j) x xs = xs

-- ---- the run

module _ {A : Type 0} (W : HeaderWriter A) (n : ℕ) where
  unfoldable pub perform : Call A → Writer → Writer
  perform (Call.add a) w = add_to W n w a
  perform Call.finish w = finish_to n w

  -- the number that refuses it, or 0
  unfoldable pub refusal : Call A → Writer → ℕ
  refusal (Call.add a) w = add_refusal W (length w.bytes) n w.bit a.header (length a.content) a.bits
  refusal Call.finish w = finish_refusal (length w.bytes) n w.bit

  -- "Each call gets the bytes and bit that the last one left"
  unfoldable pub run : List (Call A) → Writer → Writer
  run [] w = w
  run (c ∷ cs) w = run cs (perform c w)

  -- "What was put in is each accepted add's header and content bits, in order"
  unfoldable pub accepted : List (Call A) → Writer → List (Item A)
  accepted [] w = []
  accepted (Call.add a ∷ cs) w = if_accepted (refusal (Call.add a) w) (item_at w.bit a) (accepted cs (perform (Call.add a) w))
  accepted (Call.finish ∷ cs) w = accepted cs (perform Call.finish w)

  -- the writer's bit "before the first finish"
  unfoldable pub finished_at : List (Call A) → Writer → ℕ
  finished_at [] w = w.bit
  finished_at (Call.add a ∷ cs) w = finished_at cs (perform (Call.add a) w)
  finished_at (Call.finish ∷ cs) w = w.bit

-- ---- the walk that it must leave

-- behind the accepted adds in a block of n bits, finished at bit p: "a null entry follows them exactly when 16 or more bits remained"
unfoldable pub closing : {H : Type 0} → (n p : ℕ) → Walk H
closing n p = cond (ltb (n - p) least_bits) (ended p) (entries_then (record { bit = p; pdu = Pdu.null 2 } ∷ []) (ended (p + least_bits)))

module _ {A H : Type 0} (C : Codec A H) where
  -- how what was put in must read: the header in normal form, with the length and the fill flag that the writer set, and the content
  unfoldable pub as_read : A → (l : ℕ) → List Bool → (f : ℕ) → Reading H
  as_read a l content f = Reading.read (C.normal a l (flag_of f)) (C.writer.header_len a) content f

  -- of m bits, where `left` are left to N
  unfoldable pub as_pdu : A → List Bool → (left m : ℕ) → Pdu H
  as_pdu a content left m = let i = C.writer.ending a in
      Pdu.sized (pdu_size i left m) (as_read a (length_of i m) content (pdu_fill i left m))

  module _ (n : ℕ) where
    unfoldable pub as_entry : Item A → Entry H
    as_entry x =
        record { bit = x.bit; pdu = as_pdu x.header x.content (n - x.bit) (total C.writer x.header (length x.content)) }

    -- the accepted adds in their order, "then the null PDU if one was written"
    unfoldable pub expected : List (Call A) → List ℕ → Walk H
    expected cs v = entries_then (map as_entry (accepted C.writer n cs (start v))) (closing n (finished_at C.writer n cs (start v)))
