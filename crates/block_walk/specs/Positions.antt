-- A walk's positions: what the step from each answers, and the position after it. Document 01, "Block".
use Rattle.std.specs.Prelude.{ℕ, ◌+◌, ◌-◌, ◌≤◌, List, None, Option, Some, Result, Ok, Err}
use Rattle.std.specs.Borrow.{Bor}
use Rattle.tetra_core.specs.declared.refusal.Refusal.{Refusal}
use Rattle.mac_block.specs.declared.reader.BlockEntry.{BlockEntry}
use Rattle.block_rules.specs.Numbers.{most_bits, least_bits}
use Rattle.block_rules.specs.Walk as block
use Rattle.block_rules.specs.Downlink.{DownlinkHeader, downlink_reader}
use Rattle.mac_block.specs.Answers.{step_answer}
use Rattle.block_walk.specs.declared.Position.{Position}
use Rattle.block_walk.specs.declared.WalkStep.{WalkStep}
use Rattle.block_walk.specs.declared.Walk.{Walk}

-- "if it or its fill (12) is refused, the walk goes on at the PDU's end"; a refusal without an end (4, 8) is the walk's end
unfoldable pub after_end : (p : ℕ) → Option ℕ → Position
after_end p (Some q) = Position.At q
after_end p None = Position.Ended p

-- "each from the last one's PDU end"; "Rest is the bits after a null PDU, or from p where the walk ended otherwise"
unfoldable pub after_entry : BlockEntry → Position
after_entry (BlockEntry.Resource pdu) = Position.At pdu.end
after_entry (BlockEntry.Null p) = Position.Ended (p + least_bits)
after_entry (BlockEntry.Refused pdu) = after_end pdu.bit pdu.end

-- the position after the answer of a step from the bit p
unfoldable pub after : (p : ℕ) → Result (Option BlockEntry) Refusal → Position
after p (Ok (Some e)) = after_entry e
after p (Ok None) = Position.Ended p
after p (Err r) = Position.Ended p

abbrev pub stepped : (p : ℕ) → Result (Option BlockEntry) Refusal → WalkStep
stepped p a = record { position = after p a; answer = a }

-- in a block of n bits in the bytes v: the block's step, and "a walk that ended gives end again"
unfoldable pub step_from : (v : List ℕ) (n : ℕ) → Position → WalkStep
step_from v n (Position.At p) = stepped p (step_answer (block.step downlink_reader v n p))
step_from v n (Position.Ended q) = record { position = Position.Ended q; answer = Ok None }

-- the block's walk, from a position on
unfoldable pub walk_on : (v : List ℕ) (n : ℕ) → Position → block.Walk DownlinkHeader
walk_on v n (Position.At p) = block.walk_from downlink_reader v n p
walk_on v n (Position.Ended q) = block.ended q

-- how many bits the rest has of the walk from a position on
unfoldable pub rest_from : (v : List ℕ) (n : ℕ) → Position → ℕ
rest_from v n x = n - (walk_on v n x).rest_at

-- ---- the walk that keeps its block

-- a new walk is at "bit 0"
abbrev pub begun : Bor (List ℕ) → (n : ℕ) → Walk
begun v n = record { block = v; bits = n; position = Position.At 0 }

-- the walk after a step: its block and bit count are as they were
abbrev pub moved : Walk → Walk
moved w = record { block = w.block; bits = w.bits; position = (step_from w.block.now w.bits w.position).position }

-- ---- of an entry as the reader answers it

-- a null PDU begins in a block
unfoldable pub NullFits : BlockEntry → Type 0
NullFits (BlockEntry.Resource pdu) = Unit {0}
NullFits (BlockEntry.Null p) = p ≤ most_bits
NullFits (BlockEntry.Refused pdu) = Unit {0}
