-- The calls of the bit buffer that have no C call, on boundary values: what the definitions give that the contracts cite, and
-- what it should be. `proofs/Cases.antt` computes every row.
use Rattle.std.specs.Prelude.{◌≡◌, true, false, List, [], ◌∷◌, ◌++◌, map, ℕ, ◌+◌, ◌*◌, ◌-◌, replicate, pos, negsuc, Err, Ok, Result}
use Rattle.tetra_core.specs.BitBuffer.{at, read_bits, peek_at, read_bits_into_slice, sliced_bits, to_bitarr, bitarr, into_bitvec, bitvec, write_bits, written, write_run, run_written, copy_bits, copied, copy_bits_from_bitarr, from_bitarr, window_count, changed, seek_rel, opened}
use Rattle.tetra_core.specs.Quantity.{octet_count}
use Rattle.tetra_core.specs.declared.bitbuffer.Cursor.{Cursor}
use Rattle.tetra_core.specs.Refusal.{reason}
use Rattle.tetra_core.specs.declared.refusal.Reason.{Reason}
use Rattle.tetra_core.specs.declared.refusal.Refusal.{Refusal}
use Rattle.tetra_core.specs.declared.bitbuffer.Read.{Read}
use Rattle.tetra_core.specs.declared.bitbuffer.Moved.{Moved}
use Rattle.tetra_core.specs.declared.bitbuffer.Copied.{Copied}
use Rattle.tetra_core.specs.declared.quantity.OctetCount.{OctetCount}

-- what a call answers
pub data BitsCall : Type 0 where
  -- a read or a peek, and one into a slice, with the bytes that are left in it
  Reads : Read ℕ → BitsCall
  ReadInto : Read ℕ → (buf : List ℕ) → BitsCall
  -- a write or a copy, and the bytes that are left
  Wrote : Moved → (bytes : List ℕ) → BitsCall
  Copies : Copied → (bytes : List ℕ) → BitsCall
  -- a window moved, counted, opened
  Turned : Moved → BitsCall
  Count : Result ℕ Refusal → BitsCall
  Open : Result Cursor Refusal → BitsCall
  Octets : Result OctetCount Reason → BitsCall

-- a call, and what it should answer
pub record Check : Type 0 where
  pub computed : BitsCall
  pub stated : BitsCall

abbrev pub check : BitsCall → BitsCall → Check
check x y = record { computed = x; stated = y }

-- ---- windows and answers

abbrev pub cursor : (start pos end : ℕ) → Cursor
cursor a p e = record { start = a; pos = p; end = e }

-- a number with the cursor after it, and a refused read
abbrev pub value : ℕ → Cursor → Read ℕ
value v c = record { cursor = c; answer = Ok v }

abbrev pub refuses : ℕ → Cursor → Read ℕ
refuses j c = record { cursor = c; answer = Err (record { reason = reason j; offset = 0 }) }

-- a write or move that is done, and a refused one
abbrev pub done : Cursor → Moved
done c = record { cursor = c; answer = (Ok tt) }

abbrev pub denied : ℕ → Cursor → Moved
denied j c = record { cursor = c; answer = Err (reason j) }

-- 17 bytes, which are 136 bits
abbrev pub sample : List ℕ
sample = 0x12 ∷ 0x34 ∷ 0x56 ∷ 0x78 ∷ 0x9a ∷ 0xbc ∷ 0xde ∷ 0xf0 ∷ 0x11 ∷ 0x23 ∷ 0x45 ∷ 0x67 ∷ 0x89 ∷ 0xab ∷ 0xcd ∷ 0xef ∷ 0x5a ∷ []

abbrev pub zeros : List ℕ
zeros = replicate 17 0x00

abbrev pub ones : List ℕ
ones = replicate 17 0xff

-- the window from bit 8 to 40 with its cursor at 16, and one that is bad
abbrev pub inner : Cursor
inner = cursor 8 16 40

abbrev pub bad : Cursor
bad = cursor 8 7 40

-- ---- the rows

-- read_bit, peek_bits and peek_bits_startoffset
abbrev pub reads : List Check
reads =
    check (Reads (read_bits sample (cursor 0 3 136) 1)) (Reads (value 1 (cursor 0 4 136)))
    ∷ check (Reads (read_bits sample (cursor 0 136 136) 1)) (Reads (refuses 1 (cursor 0 136 136)))
    ∷ check (Reads (peek_at sample (cursor 0 3 136) 3 64)) (Reads (value 0x91a2b3c4d5e6f780 (cursor 0 3 136)))
    ∷ check (Reads (peek_at sample (cursor 0 3 136) 3 65)) (Reads (refuses 1 (cursor 0 3 136)))
    ∷ check (Reads (peek_at sample inner (8 + 24) 8)) (Reads (value 0x9a inner))
    ∷ check (Reads (peek_at sample inner (8 + 25) 8)) (Reads (refuses 1 inner))
    ∷ check (Reads (peek_at sample inner (8 + 32) 0)) (Reads (value 0 inner))
    ∷ check (Reads (peek_at sample inner (8 + 33) 0)) (Reads (refuses 1 inner))
    ∷ check (Reads (peek_at sample bad (8 + 0) 1)) (Reads (refuses 13 bad))
    ∷ []

-- read_bits_into_slice: eight bits a byte, the last filled up with zeros; to_bitarr and into_bitvec: one a byte, from the cursor on and the
-- whole window
abbrev pub into : List Check
into =
    check (ReadInto (read_bits_into_slice sample (cursor 0 4 136) 1 (replicate 10 0xff)) (sliced_bits sample (cursor 0 4 136) 1 (replicate 10 0xff))) (ReadInto (value 1 (cursor 0 5 136)) (0x00 ∷ replicate 9 0xff))
    ∷ check (ReadInto (read_bits_into_slice sample (cursor 0 4 136) 65 (replicate 10 0xff)) (sliced_bits sample (cursor 0 4 136) 65 (replicate 10 0xff))) (ReadInto (value 65 (cursor 0 69 136)) (0x23 ∷ 0x45 ∷ 0x67 ∷ 0x89 ∷ 0xab ∷ 0xcd ∷ 0xef ∷ 0x01 ∷ 0x00 ∷ 0xff ∷ []))
    ∷ check (ReadInto (read_bits_into_slice sample (cursor 0 4 136) 80 (replicate 10 0xff)) (sliced_bits sample (cursor 0 4 136) 80 (replicate 10 0xff))) (ReadInto (value 80 (cursor 0 84 136)) (0x23 ∷ 0x45 ∷ 0x67 ∷ 0x89 ∷ 0xab ∷ 0xcd ∷ 0xef ∷ 0x01 ∷ 0x12 ∷ 0x34 ∷ []))
    ∷ check (ReadInto (read_bits_into_slice sample (cursor 0 4 136) 81 (replicate 10 0xff)) (sliced_bits sample (cursor 0 4 136) 81 (replicate 10 0xff))) (ReadInto (refuses 2 (cursor 0 4 136)) (replicate 10 0xff))
    ∷ check (ReadInto (read_bits_into_slice sample (cursor 0 4 68) 65 (replicate 10 0xff)) (sliced_bits sample (cursor 0 4 68) 65 (replicate 10 0xff))) (ReadInto (refuses 1 (cursor 0 4 68)) (replicate 10 0xff))
    ∷ check (ReadInto (read_bits_into_slice sample bad 1 (replicate 10 0xff)) (sliced_bits sample bad 1 (replicate 10 0xff))) (ReadInto (refuses 13 bad) (replicate 10 0xff))
    ∷ check (ReadInto (to_bitarr sample (cursor 0 127 136) (replicate 9 9)) (bitarr sample (cursor 0 127 136) (replicate 9 9))) (ReadInto (value 9 (cursor 0 136 136)) (1 ∷ 0 ∷ 1 ∷ 0 ∷ 1 ∷ 1 ∷ 0 ∷ 1 ∷ 0 ∷ []))
    ∷ check (ReadInto (to_bitarr sample (cursor 0 128 136) (replicate 9 9)) (bitarr sample (cursor 0 128 136) (replicate 9 9))) (ReadInto (refuses 1 (cursor 0 128 136)) (replicate 9 9))
    ∷ check (ReadInto (into_bitvec (0xa5 ∷ []) (cursor 1 1 2) (replicate 2 9)) (bitvec (0xa5 ∷ []) (cursor 1 1 2) (replicate 2 9))) (ReadInto (value 1 (cursor 1 1 2)) (0 ∷ 9 ∷ []))
    ∷ check (ReadInto (into_bitvec (0xa5 ∷ []) (cursor 4 6 8) (replicate 4 9)) (bitvec (0xa5 ∷ []) (cursor 4 6 8) (replicate 4 9))) (ReadInto (value 4 (cursor 4 6 8)) (0 ∷ 1 ∷ 0 ∷ 1 ∷ []))
    ∷ check (ReadInto (into_bitvec (0xa5 ∷ []) (cursor 4 6 8) (replicate 3 9)) (bitvec (0xa5 ∷ []) (cursor 4 6 8) (replicate 3 9))) (ReadInto (refuses 2 (cursor 4 6 8)) (replicate 3 9))
    ∷ []

-- write_bit, write_zeroes and write_ones
abbrev pub writes : List Check
writes =
    check (Wrote (write_bits (0x1f ∷ []) (cursor 0 0 8) 1 1) (written (0x1f ∷ []) (cursor 0 0 8) 1 1)) (Wrote (done (cursor 0 1 8)) (0x9f ∷ []))
    ∷ check (Wrote (write_bits (0x1f ∷ []) (cursor 0 0 8) 2 1) (written (0x1f ∷ []) (cursor 0 0 8) 2 1)) (Wrote (denied 3 (cursor 0 0 8)) (0x1f ∷ []))
    ∷ check (Wrote (write_run ones (cursor 0 3 136) 130) (run_written false ones (cursor 0 3 136) 130)) (Wrote (done (cursor 0 133 136)) (0xe0 ∷ (replicate 15 0x00 ++ (0x07 ∷ []))))
    ∷ check (Wrote (write_run ones (cursor 0 3 136) 134) (run_written false ones (cursor 0 3 136) 134)) (Wrote (denied 2 (cursor 0 3 136)) ones)
    ∷ check (Wrote (write_run zeros (cursor 0 5 130) 125) (run_written true zeros (cursor 0 5 130) 125)) (Wrote (done (cursor 0 130 130)) (0x07 ∷ (replicate 15 0xff ++ (0xc0 ∷ []))))
    ∷ check (Wrote (write_run zeros (cursor 0 5 130) 126) (run_written true zeros (cursor 0 5 130) 126)) (Wrote (denied 2 (cursor 0 5 130)) zeros)
    ∷ check (Wrote (write_run zeros bad 1) (run_written true zeros bad 1)) (Wrote (denied 13 bad) zeros)
    ∷ []

-- copy_bits: short source before short destination
abbrev pub copies : List Check
copies =
    check (Copies (copy_bits zeros (cursor 0 3 136) sample (cursor 0 5 136) 131) (copied zeros (cursor 0 3 136) sample (cursor 0 5 136) 131)) (Copies (record { cursor = cursor 0 134 136; source = cursor 0 136 136; answer = (Ok tt) }) (0x08 ∷ 0xd1 ∷ 0x59 ∷ 0xe2 ∷ 0x6a ∷ 0xf3 ∷ 0x7b ∷ 0xc0 ∷ 0x44 ∷ 0x8d ∷ 0x15 ∷ 0x9e ∷ 0x26 ∷ 0xaf ∷ 0x37 ∷ 0xbd ∷ 0x68 ∷ []))
    ∷ check (Copies (copy_bits zeros (cursor 0 3 136) sample (cursor 0 5 136) 132) (copied zeros (cursor 0 3 136) sample (cursor 0 5 136) 132)) (Copies (record { cursor = cursor 0 3 136; source = cursor 0 5 136; answer = Err (reason 1) }) zeros)
    ∷ check (Copies (copy_bits zeros (cursor 0 6 136) sample (cursor 0 5 136) 131) (copied zeros (cursor 0 6 136) sample (cursor 0 5 136) 131)) (Copies (record { cursor = cursor 0 6 136; source = cursor 0 5 136; answer = Err (reason 2) }) zeros)
    ∷ check (Copies (copy_bits zeros (cursor 0 9 137) sample (cursor 0 0 136) 1) (copied zeros (cursor 0 9 137) sample (cursor 0 0 136) 1)) (Copies (record { cursor = cursor 0 9 137; source = cursor 0 0 136; answer = Err (reason 13) }) zeros)
    ∷ check (Copies (copy_bits zeros (cursor 0 9 136) sample (cursor 0 0 137) 1) (copied zeros (cursor 0 9 136) sample (cursor 0 0 137) 1)) (Copies (record { cursor = cursor 0 9 136; source = cursor 0 0 137; answer = Err (reason 13) }) zeros)
    ∷ []

-- copy_bits_from_bitarr: a value that is no bit before the end
abbrev pub gathered : List Check
gathered =
    check (Wrote (copy_bits_from_bitarr (replicate 2 0) (cursor 0 3 12) (1 ∷ 0 ∷ 1 ∷ 1 ∷ 0 ∷ 0 ∷ 1 ∷ 0 ∷ 1 ∷ [])) (from_bitarr (replicate 2 0) (cursor 0 3 12) (1 ∷ 0 ∷ 1 ∷ 1 ∷ 0 ∷ 0 ∷ 1 ∷ 0 ∷ 1 ∷ []))) (Wrote (done (cursor 0 12 12)) (0x16 ∷ 0x50 ∷ []))
    ∷ check (Wrote (copy_bits_from_bitarr (replicate 2 0) (cursor 0 3 11) (1 ∷ 0 ∷ 1 ∷ 1 ∷ 0 ∷ 0 ∷ 1 ∷ 0 ∷ 1 ∷ [])) (from_bitarr (replicate 2 0) (cursor 0 3 11) (1 ∷ 0 ∷ 1 ∷ 1 ∷ 0 ∷ 0 ∷ 1 ∷ 0 ∷ 1 ∷ []))) (Wrote (denied 2 (cursor 0 3 11)) (replicate 2 0))
    ∷ check (Wrote (copy_bits_from_bitarr (replicate 2 0) (cursor 0 3 11) (replicate 9 2)) (from_bitarr (replicate 2 0) (cursor 0 3 11) (replicate 9 2))) (Wrote (denied 3 (cursor 0 3 11)) (replicate 2 0))
    ∷ check (Wrote (copy_bits_from_bitarr (replicate 2 0) (cursor 4 3 11) (2 ∷ [])) (from_bitarr (replicate 2 0) (cursor 4 3 11) (2 ∷ []))) (Wrote (denied 13 (cursor 4 3 11)) (replicate 2 0))
    ∷ []

-- seek, seek_rel, set_raw_start, set_raw_end and set_raw_pos
abbrev pub turned : List Check
turned =
    check (Turned (changed 17 inner (at inner (8 + 32)))) (Turned (done (cursor 8 40 40)))
    ∷ check (Turned (changed 17 inner (at inner (8 + 33)))) (Turned (denied 13 inner))
    ∷ check (Turned (seek_rel 17 inner (pos 24))) (Turned (done (cursor 8 40 40)))
    ∷ check (Turned (seek_rel 17 inner (pos 25))) (Turned (denied 13 inner))
    ∷ check (Turned (seek_rel 17 inner (negsuc 7))) (Turned (done (cursor 8 8 40)))
    ∷ check (Turned (seek_rel 17 inner (negsuc 8))) (Turned (denied 13 inner))
    ∷ check (Turned (seek_rel 17 inner (negsuc 16))) (Turned (denied 13 inner))
    ∷ check (Turned (changed 17 inner (cursor 16 16 40))) (Turned (done (cursor 16 16 40)))
    ∷ check (Turned (changed 17 inner (cursor 17 16 40))) (Turned (denied 13 inner))
    ∷ check (Turned (changed 17 inner (cursor 8 16 136))) (Turned (done (cursor 8 16 136)))
    ∷ check (Turned (changed 17 inner (cursor 8 16 137))) (Turned (denied 13 inner))
    ∷ check (Turned (changed 17 bad (at bad 8))) (Turned (denied 13 bad))
    ∷ []

-- get_len, get_len_remaining, get_len_written and get_pos; new and from_bytes; count_octets
abbrev pub counted : List Check
counted =
    check (Count (window_count 17 inner (40 - 8))) (Count (Ok 32))
    ∷ check (Count (window_count 17 inner (40 - 16))) (Count (Ok 24))
    ∷ check (Count (window_count 17 inner (16 - 8))) (Count (Ok 8))
    ∷ check (Count (window_count 17 bad (40 - 8))) (Count (Err (record { reason = reason 13; offset = 0 })))
    ∷ check (Open (opened 17 136)) (Open (Ok (cursor 0 0 136)))
    ∷ check (Open (opened 17 137)) (Open (Err (record { reason = reason 13; offset = 0 })))
    ∷ check (Open (opened 8192 (8 * 8192))) (Open (Ok (cursor 0 0 65536)))
    ∷ check (Open (opened 8193 (8 * 8193))) (Open (Err (record { reason = reason 13; offset = 0 })))
    ∷ check (Octets (octet_count 0)) (Octets (Ok (record { octets = record { 0 = 0 }; fill = record { 0 = 0 } })))
    ∷ check (Octets (octet_count 1)) (Octets (Ok (record { octets = record { 0 = 1 }; fill = record { 0 = 7 } })))
    ∷ check (Octets (octet_count 48)) (Octets (Ok (record { octets = record { 0 = 6 }; fill = record { 0 = 0 } })))
    ∷ check (Octets (octet_count 49)) (Octets (Ok (record { octets = record { 0 = 7 }; fill = record { 0 = 7 } })))
    ∷ check (Octets (octet_count 488)) (Octets (Ok (record { octets = record { 0 = 61 }; fill = record { 0 = 0 } })))
    ∷ check (Octets (octet_count 489)) (Octets (Err (reason 8)))
    ∷ []

abbrev pub bit_calls : List Check
bit_calls = reads ++ (into ++ (writes ++ (copies ++ (gathered ++ (turned ++ counted)))))

-- in every row both are the same
abbrev pub BitCallsHold : Type 0
BitCallsHold = map (λ (x : Check). x.computed) bit_calls ≡ map (λ (x : Check). x.stated) bit_calls
