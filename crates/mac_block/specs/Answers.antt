-- What the calls on a block answer: each case of the definitions as a case of the declared types, bits of the PDU as bits of the block.
use Rattle.std.specs.Prelude.{ℕ, ◌+◌, length, None, Some, Result, Option, Ok, Err}
use Rattle.tetra_core.specs.Refusal.{reason}
use Rattle.tetra_core.specs.BitBuffer.{outcome}
use Rattle.tetra_core.specs.declared.refusal.Refusal.{Refusal}
use Rattle.block_rules.specs.Codec.{HeaderWriter}
use Rattle.block_rules.specs.Read.{Reading}
use Rattle.block_rules.specs.Walk.{Pdu, Step}
use Rattle.block_rules.specs.Writer.{Writer, finish_refusal, finish_to, Add, add_refusal, add_to}
use Rattle.block_rules.specs.Downlink.{DownlinkHeader}
use Rattle.mac_block.specs.declared.reader.BlockEntry.{BlockEntry}
use Rattle.mac_block.specs.declared.writer.Written.{Written}

-- ---- a step

abbrev pub refusal : (number offset : ℕ) → Refusal
refusal j o = record { reason = reason j; offset = o }

-- a PDU of s bits from the bit p on: "bit, PDU end, header and content range, or refusal with the PDU's end"
unfoldable pub sized_entry : (p s : ℕ) → Reading DownlinkHeader → BlockEntry
sized_entry p s (Reading.read h m content fill) =
    BlockEntry.Resource (record { bit = p; end = p + s; header = h; content_start = p + m; content_end = p + m + length content })
sized_entry p s (Reading.refused j o) = BlockEntry.Refused (record { bit = p; end = Some (p + s); refusal = refusal j o })

unfoldable pub entry_of : (p : ℕ) → Pdu DownlinkHeader → BlockEntry
entry_of p (Pdu.null l) = BlockEntry.Null p
entry_of p (Pdu.sized s r) = sized_entry p s r
entry_of p (Pdu.unsized j o) = BlockEntry.Refused (record { bit = p; end = None; refusal = refusal j o })

unfoldable pub step_answer : Step DownlinkHeader → Result (Option BlockEntry) Refusal
step_answer (Step.refused j o) = Err (refusal j o)
step_answer Step.end = Ok None
step_answer (Step.entry e) = Ok (Some (entry_of e.bit e.pdu))

-- ---- an add and a finish

-- of a call that j refuses, or 0 if nothing does, and that leaves w: "A write or length refusal is its number alone."
abbrev pub answer_of : ℕ → Writer → Written
answer_of j w = record { bit = w.bit; answer = outcome j }

unfoldable pub finish_answer : (n : ℕ) → Writer → Written
finish_answer n w = answer_of (finish_refusal (length w.bytes) n w.bit) (finish_to n w)

unfoldable pub add_answer : {A : Type 0} → HeaderWriter A → (n : ℕ) → Writer → Add A → Written
add_answer W n w a = answer_of (add_refusal W (length w.bytes) n w.bit a.header (length a.content) a.bits) (add_to W n w a)
