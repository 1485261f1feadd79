-- The calls of the bit buffer: a read leaves the cursor and the value.
use Rattle.std.specs.Prelude.{ℕ, List, [], ◌∷◌, Result, Some}
use Rattle.tetra_core.specs.BitBuffer.{write_bits, written}
use Rattle.tetra_core.specs.declared.bitbuffer.Cursor.{Cursor}
use Rattle.tetra_core.specs.declared.bitbuffer.Read.{Read}
use Rattle.tetra_core.specs.declared.refusal.Refusal.{Refusal}
use Rattle.tetra_mac.specs.Reply.{Reply, WriteReply, answer_reply, read_reply, write_reply}

abbrev pub bits_reply : List ℕ → ℕ → Result ℕ Refusal → Reply
bits_reply = answer_reply (λ v. v ∷ [])

-- a read or a peek of the bit buffer
abbrev pub bits_read_reply : Read ℕ → List ℕ → Reply
bits_read_reply d out = read_reply bits_reply 2 d.cursor.pos d.answer out

abbrev pub bits_write_reply : List ℕ → Cursor → ℕ → ℕ → List ℕ → WriteReply
bits_write_reply s c value n out = write_reply (λ v. write_bits s c v n) (λ v. written s c v n) s (Some value) out
