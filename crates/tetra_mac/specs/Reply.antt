-- What a call of the interface returns, and the words that it leaves in out. A flag is 0 where it is false and any other number where it is
-- true, and is read back as 0 or 1.
use Rattle.std.specs.Prelude.{ℕ, ◌+◌, ◌*◌, List, [], ◌∷◌, Bool, cond, length, get_or, eqb, leb, Err, Ok, Result, Option, Some, None}
use Rattle.std.proofs.lemmas.List.Edits.{sets}
use Rattle.tetra_core.specs.Refusal.{number}
use Rattle.tetra_core.specs.declared.bitbuffer.Cursor.{Cursor}
use Rattle.tetra_core.specs.declared.bitbuffer.Moved.{Moved}
use Rattle.tetra_core.specs.declared.bitbuffer.Read.{Read}
use Rattle.tetra_core.specs.declared.quantity.Bits.{Bits}
use Rattle.tetra_core.specs.declared.refusal.Reason.{Reason}
use Rattle.tetra_core.specs.declared.refusal.Refusal.{Refusal}

-- a status, and out as the call leaves it
pub record Reply : Type 0 where
  pub status : ℕ
  pub out : List ℕ

-- the same of a call that writes, with the bytes that it leaves
pub record WriteReply : Type 0 where
  pub status : ℕ
  pub out : List ℕ
  pub bytes : List ℕ

abbrev pub replied : ℕ → List ℕ → Reply
replied status out = record { status = status; out = out }

abbrev pub wrote : ℕ → List ℕ → List ℕ → WriteReply
wrote status out bytes = record { status = status; out = out; bytes = bytes }

abbrev pub window : ℕ → ℕ → ℕ → Cursor
window start pos end = record { start = start; pos = pos; end = end }

-- ---- the forms of a reply

-- words put over the first words of out
abbrev pub put_first : List ℕ → List ℕ → List ℕ
put_first out ws = sets out 0 ws

-- what was read, behind the cursor's bit
abbrev pub given_reply : List ℕ → ℕ → List ℕ → Reply
given_reply out at ws = replied 0 (put_first out (at ∷ ws))

-- the refusal's number and, for a read, 256 times the first bit of the refused field
abbrev pub status_of : Refusal → ℕ
status_of r = number r.reason + 256 * r.offset

abbrev pub denied_reply : List ℕ → ℕ → Refusal → Reply
denied_reply out at r = replied (status_of r) (put_first out (at ∷ []))

abbrev pub outcome_status : Result (Unit {0}) Reason → ℕ
outcome_status (Ok tt) = 0
outcome_status (Err r) = number r

abbrev pub moved_reply : List ℕ → Moved → Reply
moved_reply out m = replied (outcome_status m.answer) (put_first out (m.cursor.pos ∷ []))

-- a record or an out slice that is too short, or a code that no case has; then nothing is written anywhere
abbrev pub malformed : ℕ
malformed = 255

-- ---- a call that reads, needs n words in out, stands at a bit afterwards and replies by its answer

unfoldable pub read_reply : {B : Type 0} → (List ℕ → ℕ → B → Reply) → ℕ → ℕ → B → List ℕ → Reply
read_reply reply n at answer out = cond (leb n (length out)) (reply out at answer) (replied malformed out)

-- by the words of what was read, or by the refusal
abbrev pub answer_reply : {A : Type 0} → (A → List ℕ) → List ℕ → ℕ → Result A Refusal → Reply
answer_reply words out at (Ok v) = given_reply out at (words v)
answer_reply words out at (Err r) = denied_reply out at r

-- a call that reads a header, which leaves the cursor and the header's words
abbrev pub header_read_reply : {A : Type 0} → (A → List ℕ) → ℕ → Read A → List ℕ → Reply
header_read_reply words n done out = read_reply (answer_reply words) n done.cursor.pos done.answer out

-- the bit that a read is refused at, or 0
abbrev pub refused_bit : {A : Type 0} → Result A Refusal → ℕ
refused_bit (Ok a) = 0
refused_bit (Err r) = r.offset

-- ---- a call that writes the value of a record, if it has one

-- a value, if its words are known
unfoldable pub value_if : {A : Type 0} → Bool → A → Option A
value_if known v = cond known (Some v) None

abbrev pub with_bytes : Reply → List ℕ → WriteReply
with_bytes r bytes = wrote r.status r.out bytes

unfoldable pub write_reply : {A : Type 0} → (A → Moved) → (A → List ℕ) → List ℕ → Option A → List ℕ → WriteReply
write_reply write written s None out = wrote malformed out s
write_reply write written s (Some v) out = cond (leb 1 (length out)) (with_bytes (moved_reply out (write v)) (written v)) (wrote malformed out s)

-- ---- a call that counts the bits of a record's value, if it has one, and needs n words in out

abbrev pub counted_reply : List ℕ → List ℕ → Reply
counted_reply out ws = replied 0 (put_first out ws)

-- of one that counts them alone, by their number or by the refusal
abbrev pub bits_counted : List ℕ → Result Bits Reason → Reply
bits_counted out (Ok n) = counted_reply out (n.0 ∷ [])
bits_counted out (Err r) = replied (number r) out

unfoldable pub record_reply : {A : Type 0} → (A → Reply) → ℕ → Option A → List ℕ → Reply
record_reply reply n None out = replied malformed out
record_reply reply n (Some v) out = cond (leb n (length out)) (reply v) (replied malformed out)

-- the word i of a record
abbrev pub word : List ℕ → ℕ → ℕ
word ws i = get_or ws i 0

-- a number behind its flag, which is not looked at where the flag is 0
unfoldable pub number_if : ℕ → ℕ → Option ℕ
number_if present v = cond (eqb present 0) None (Some v)
