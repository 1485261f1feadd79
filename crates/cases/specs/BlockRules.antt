-- The rules of document 01's "Block" at their edges, in the form of specs/Cases.antt: a row for each rule, with the sentence that it holds.
-- docs/TRUST.md says which wrong definitions each row refuses. `proofs/Cases.antt` computes every row.
use Rattle.std.specs.Prelude.{◌⊎◌, Bool, true, false, List, [], ◌∷◌, ◌++◌, map, ℕ, ◌≤◌, ◌<◌, replicate, Err, None, Option, Some, Ok}
use Rattle.tetra_core.specs.Refusal.{reason}
use Rattle.tetra_core.specs.declared.address.SsiType.{SsiType}
use Rattle.tetra_core.specs.declared.address.DownlinkAddress.{DownlinkAddress}
use Rattle.channel_allocation.specs.declared.enums.ul_dl_assignment.UlDlAssignment.{UlDlAssignment}
use Rattle.channel_allocation.specs.ChannelAllocation.{compute_len}
use Rattle.mac_resource.specs.declared.mac_resource.MacResource.{MacResource}
use Rattle.mac_resource.specs.MacResource.{null_pdu, compute_header_len, update_len_and_fill_ind}
use Rattle.block_rules.specs.declared.to_add.LengthIndication.{LengthIndication}
use Rattle.block_rules.specs.Extent.{Spared}
use Rattle.block_rules.specs.Read.{Reading}
use Rattle.block_rules.specs.Walk.{Pdu, Entry, place}
use Rattle.block_rules.specs.Writer.{add_of}
use Rattle.block_rules.specs.Run.{Call}
use Rattle.block_rules.specs.Downlink.{DownlinkHeader, HeaderToAdd, resource_to_add}
use Rattle.mac_block.specs.declared.writer.Written.{Written}
use Rattle.cases.specs.Cases.{Answer, check, Row, block_from, block, stepped, allocation, header, plain, ssi1, adds_header, adds, counts, done, refused, entry, pdu, null, walked, was_read_at, null_at, refused_at, no_step}

-- ---- two PDUs: the first of 48 bits, so that the second begins at bit 48

abbrev pub behind : List ℕ → List ℕ
behind xs = (0x00 ∷ 0x31 ∷ 0x00 ∷ 0x00 ∷ 0x01 ∷ 0x1f ∷ []) ++ xs

abbrev pub first : Entry DownlinkHeader
first = pdu 0 48 6 false 5 0

-- the second begins with these two octets; then SSI 1, no elements, six ones and seven zeros
abbrev pub second : ℕ → ℕ → List ℕ
second a b = behind (a ∷ b ∷ 0x00 ∷ 0x00 ∷ 0x01 ∷ 0x1f ∷ 0x80 ∷ [])

-- an add that nothing but its place refuses, and a finish
abbrev pub add_and_finish : List (Call HeaderToAdd)
add_and_finish = counts 0 ∷ Call.finish ∷ []

-- ---- the reader

-- "length 0 or 1: refused 8, end; otherwise the end is p + 8 × length; if that passes N by under 8 bits it is N; by 8 or more, refused 8, end."
-- Lengths 0, 1 and 2, the last with its end in the header; then 7, which passes N by 7 and by 8
abbrev pub lengths : Row
lengths =
    check (stepped (second 0x00 0x01) 104 48) (refused_at 48 None 8 7)
    ∷ check (stepped (second 0x00 0x09) 104 48) (refused_at 48 None 8 7)
    ∷ check (stepped (second 0x00 0x11) 104 48) (refused_at 48 (Some 64) 1 16)
    ∷ check (stepped (second 0x00 0x39) 97 48) (was_read_at 48 97 (ssi1 7 false) 91 97)
    ∷ check (stepped (second 0x00 0x39) 96 48) (refused_at 48 None 8 7)
    ∷ []

-- SSI 1, five ones and 12 bits of fill; the four bits behind it were ones before
abbrev pub marked : ℕ → List ℕ
marked b = 0x21 ∷ b ∷ 0x00 ∷ 0x00 ∷ 0x01 ∷ 0x1f ∷ 0x80 ∷ 0x0f ∷ []

-- "length 62 or 63: the PDU runs to N"; "A marked PDU takes the rest of the block."
abbrev pub marks : Row
marks =
    check (stepped (second 0x01 0xf1) 97 48) (was_read_at 48 97 (ssi1 62 false) 91 97)
    ∷ check (stepped (second 0x01 0xf9) 97 48) (was_read_at 48 97 (ssi1 63 false) 91 97)
    ∷ check (block 60 (replicate 8 0xff) (adds LengthIndication.SecondSlotStolen 5 ∷ []))
    (Answer.Block (done 60 ∷ []) (marked 0xf1) (walked (pdu 0 60 62 true 5 12 ∷ []) 60))
    ∷ check (block 60 (replicate 8 0xff) (adds LengthIndication.FragStart 5 ∷ []))
    (Answer.Block (done 60 ∷ []) (marked 0xf9) (walked (pdu 0 60 63 true 5 12 ∷ []) 60))
    ∷ []

-- "null address: null entry, end, its length unused": lengths 0, 1 and 63
abbrev pub nulls : Row
nulls =
    check (stepped (second 0x00 0x00) 104 48) (null_at 48)
    ∷ check (stepped (second 0x00 0x08) 104 48) (null_at 48)
    ∷ check (stepped (second 0x01 0xf8) 104 48) (null_at 48)
    ∷ check (block 104 (second 0x01 0xf8) []) (Answer.Block [] (second 0x01 0xf8) (walked (first ∷ entry 48 (Pdu.null 63) ∷ []) 64))
    ∷ []

-- "type not 0: refused 4, end"; "the block's 4, 8 and 12 give 0, 7 and the header's end." Types 1, 2 and 3, the second with length 0 and the null
-- address
abbrev pub types : Row
types =
    check (stepped (second 0x40 0x31) 104 48) (refused_at 48 None 4 0)
    ∷ check (stepped (second 0x80 0x00) 104 48) (refused_at 48 None 4 0)
    ∷ check (stepped (second 0xc0 0x31) 104 48) (refused_at 48 None 4 0)
    ∷ check (block 104 (second 0xc0 0x31) []) (Answer.Block [] (second 0xc0 0x31) (walked (first ∷ entry 48 (Pdu.unsized 4 0) ∷ []) 48))
    ∷ []

-- fill set and five zeros behind the header, then a null PDU
abbrev pub unfilled : List ℕ
unfilled = behind (0x20 ∷ 0x31 ∷ 0x00 ∷ 0x00 ∷ 0x01 ∷ 0x00 ∷ 0x00 ∷ 0x10 ∷ [])

-- "if it or its fill (12) is refused, the walk goes on at the PDU's end"; "4, 8 and 12 give 0, 7 and the header's end." And a header of 29 bits that
-- is all of its PDU; the 1 behind it is fill in a block of 30 bits
abbrev pub fills : Row
fills =
    check (stepped unfilled 112 48) (refused_at 48 (Some 96) 12 43)
    ∷ check (block 112 unfilled []) (Answer.Block [] unfilled (walked (first ∷ entry 48 (Pdu.sized 48 (Reading.refused 12 43)) ∷ null 96 ∷ []) 112))
    ∷ check (stepped (0x20 ∷ 0x22 ∷ 0x00 ∷ 0x44 ∷ []) 29 0) (refused_at 0 (Some 29) 12 29)
    ∷ check (stepped (0x20 ∷ 0x22 ∷ 0x00 ∷ 0x44 ∷ []) 30 0) (was_read_at 0 30 (plain 4 true 0 (DownlinkAddress.EventLabel 1)) 29 29)
    ∷ []

-- "fewer than 16 bits left: end"; "A step from a bit past N is refused 13": with 16 bits left, with 15, from N and from N + 1
abbrev pub steps_from : Row
steps_from =
    check (stepped (second 0x00 0x39) 96 80) (refused_at 80 None 8 7)
    ∷ check (stepped (second 0x00 0x39) 96 81) (Answer.Step (Ok None))
    ∷ check (stepped (second 0x00 0x39) 96 96) (Answer.Step (Ok None))
    ∷ check (stepped (second 0x00 0x39) 96 97) (no_step 13)
    ∷ []

-- ---- reader and writer

-- an add of k bits out of one byte
abbrev pub adds_byte : ℕ → Call HeaderToAdd
adds_byte k = Call.add (add_of (resource_to_add (ssi1 0 false) LengthIndication.Counted) (0xff ∷ []) k)

-- "bit count over limit or slice": 488 bits and 489 in 62 bytes, 16 and 17 in two; content of 9 bits and of 8 in one byte
abbrev pub limits : Row
limits =
    check (stepped (replicate 62 0) 488 0) (null_at 0)
    ∷ check (stepped (replicate 62 0) 489 0) (no_step 13)
    ∷ check (block 489 (replicate 62 0) add_and_finish) (Answer.Block (refused 0 13 ∷ refused 0 13 ∷ []) (replicate 62 0) (walked [] 0))
    ∷ check (stepped (replicate 2 0) 16 0) (null_at 0)
    ∷ check (stepped (replicate 2 0) 17 0) (no_step 13)
    ∷ check (block 17 (replicate 2 0) add_and_finish) (Answer.Block (refused 0 13 ∷ refused 0 13 ∷ []) (replicate 2 0) (walked [] 0))
    ∷ check (block 56 (replicate 7 0) (adds_byte 9 ∷ adds_byte 8 ∷ []))
    (Answer.Block (refused 0 13 ∷ done 56 ∷ []) (0x20 ∷ 0x39 ∷ 0x00 ∷ 0x00 ∷ 0x01 ∷ 0x1f ∷ 0xf0 ∷ []) (walked (pdu 0 56 7 true 8 5 ∷ []) 56))
    ∷ []

-- ---- the writer

-- "Finishing writes a null PDU (length 2) if 16 bits remain, then, if any remain, one 1 and zeros to N." "Bits past N, and bits not yet written,
-- keep their values." With 0, 1, 15, 16 and 17 bits left
abbrev pub finishes : Row
finishes =
    check (block 0 (replicate 3 0x7f) (Call.finish ∷ [])) (Answer.Block (done 0 ∷ []) (0x7f ∷ 0x7f ∷ 0x7f ∷ []) (walked [] 0))
    ∷ check (block 1 (replicate 3 0x7f) (Call.finish ∷ [])) (Answer.Block (done 1 ∷ []) (0xff ∷ 0x7f ∷ 0x7f ∷ []) (walked [] 0))
    ∷ check (block 15 (replicate 3 0x7f) (Call.finish ∷ [])) (Answer.Block (done 15 ∷ []) (0x80 ∷ 0x01 ∷ 0x7f ∷ []) (walked [] 0))
    ∷ check (block 16 (replicate 3 0x7f) (Call.finish ∷ [])) (Answer.Block (done 16 ∷ []) (0x00 ∷ 0x10 ∷ 0x7f ∷ []) (walked (null 0 ∷ []) 16))
    ∷ check (block 17 (replicate 3 0x7f) (Call.finish ∷ [])) (Answer.Block (done 17 ∷ []) (0x00 ∷ 0x10 ∷ 0xff ∷ []) (walked (null 0 ∷ []) 16))
    ∷ []

-- a null PDU and four bits behind it, which calls leave as they are
abbrev pub closed : List ℕ
closed = 0x00 ∷ 0x10 ∷ 0xff ∷ []

abbrev pub kept : List Written → Answer
kept ws = Answer.Block ws closed (walked (null 0 ∷ []) 16)

-- "A writer's bit past N, or neither N nor on an octet, is refused 13." An add and a finish from six bits of 20
abbrev pub writers_bits : Row
writers_bits =
    check (block_from 4 20 closed add_and_finish) (kept (refused 4 13 ∷ refused 4 13 ∷ []))
    ∷ check (block_from 16 20 closed add_and_finish) (Answer.Block (refused 16 2 ∷ done 20 ∷ []) (0x00 ∷ 0x10 ∷ 0x8f ∷ []) (walked (null 0 ∷ []) 16))
    ∷ check (block_from 19 20 closed add_and_finish) (kept (refused 19 13 ∷ refused 19 13 ∷ []))
    ∷ check (block_from 20 20 closed add_and_finish) (kept (refused 20 2 ∷ done 20 ∷ []))
    ∷ check (block_from 21 20 closed add_and_finish) (kept (refused 21 13 ∷ refused 21 13 ∷ []))
    ∷ check (block_from 24 20 closed add_and_finish) (kept (refused 24 13 ∷ refused 24 13 ∷ []))
    ∷ []

-- an add of k bits to 20, so that 2 would refuse it
abbrev pub adds_to20 : MacResource → ℕ → Answer
adds_to20 h k = block 20 closed (adds_header h LengthIndication.Counted k ∷ [])

-- "Writes: 13, 8, 9, 10, then 3, 7, 14, 11, 6 in layout order (6 after the patterns), 2 last". Null, encryption mode 1, label 1024 and a good
-- header, each in 489 bits and in 488; content over its slice; and a mark: "over 61 octets, marked or counted"
abbrev pub order : Row
order =
    check (adds_to20 null_pdu 473) (kept (refused 0 8 ∷ []))
    ∷ check (adds_to20 null_pdu 472) (kept (refused 0 9 ∷ []))
    ∷ check (adds_to20 (plain 0 false 1 (DownlinkAddress.Ssi SsiType.Ssi 1)) 446) (kept (refused 0 8 ∷ []))
    ∷ check (adds_to20 (plain 0 false 1 (DownlinkAddress.Ssi SsiType.Ssi 1)) 445) (kept (refused 0 10 ∷ []))
    ∷ check (adds_to20 (plain 0 false 0 (DownlinkAddress.EventLabel 1024)) 460) (kept (refused 0 8 ∷ []))
    ∷ check (adds_to20 (plain 0 false 0 (DownlinkAddress.EventLabel 1024)) 459) (kept (refused 0 3 ∷ []))
    ∷ check (adds_to20 (ssi1 0 false) 446) (kept (refused 0 8 ∷ []))
    ∷ check (adds_to20 (ssi1 0 false) 445) (kept (refused 0 2 ∷ []))
    ∷ check (adds_to20 (ssi1 0 false) 481) (kept (refused 0 13 ∷ []))
    ∷ check (block 20 closed (adds LengthIndication.FragStart 446 ∷ [])) (kept (refused 0 8 ∷ []))
    ∷ []

abbrev pub augmented : (pattern : ℕ) → Option ℕ → MacResource
augmented p f = header 0 false 0 (DownlinkAddress.Ssi SsiType.Ssi 1) (Some (allocation UlDlAssignment.Augmented p f))

-- "The three length functions refuse 6 for direction 0, before 8; in an add such an element counts 25 or 27 bits."
abbrev pub directions : Row
directions =
    check (Answer.AllocationLen (compute_len (allocation UlDlAssignment.Augmented 1 None))) (Answer.AllocationLen (Err (reason 6)))
    ∷ check (Answer.HeaderBits (compute_header_len (augmented 1 None))) (Answer.HeaderBits (Err (reason 6)))
    ∷ check (Answer.Octets (update_len_and_fill_ind (augmented 1 None) 488)) (Answer.Octets (Err (reason 6)))
    ∷ check (adds_to20 (augmented 1 None) 421) (kept (refused 0 8 ∷ []))
    ∷ check (adds_to20 (augmented 1 None) 420) (kept (refused 0 6 ∷ []))
    ∷ check (adds_to20 (augmented 0 (Some 1)) 419) (kept (refused 0 8 ∷ []))
    ∷ check (adds_to20 (augmented 0 (Some 1)) 418) (kept (refused 0 6 ∷ []))
    ∷ []

-- ---- the words of demand 3

-- "Place is the number in the walk, the bit, and the end where there is one"
abbrev pub places : Row
places =
    check (Answer.Places (map place (first ∷ entry 48 (Pdu.null 63) ∷ entry 48 (Pdu.unsized 4 0) ∷ [])))
    (Answer.Places ((0, Some 48) ∷ (48, Some 64) ∷ (48, None) ∷ []))
    ∷ []

abbrev pub block_rules : List Row
block_rules = lengths ∷ marks ∷ nulls ∷ types ∷ fills ∷ steps_from ∷ limits ∷ finishes ∷ writers_bits ∷ order ∷ directions ∷ places ∷ []

-- "sparing that PDU's type, length and address type", bits 0 and 1 and 7 to 15: no other bit is spared
abbrev pub NoMoreSpared : Type 0
NoMoreSpared = (bits : List Bool) (i : ℕ) → 2 ≤ i → (i < 7) ⊎ (16 ≤ i) → Spared bits i → ⊥
