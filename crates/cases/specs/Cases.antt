-- Document 01, "Bits to hold against": one row for each case, one for the listing's block, and one for the examples of the refusal table. A row
-- has calls, each with what the definitions give that its contract cites, and what the paper says. `proofs/Cases.antt` computes every row.
use Rattle.std.specs.Prelude.{◌≡◌, Bool, true, false, List, [], ◌∷◌, ◌++◌, map, ℕ, replicate, Err, None, Ok, Option, Result, Some}
use Rattle.tetra_core.specs.declared.address.SsiType.{SsiType}
use Rattle.tetra_core.specs.declared.quantity.Bits.{Bits}
use Rattle.tetra_core.specs.Refusal.{reason}
use Rattle.tetra_core.specs.declared.refusal.Reason.{Reason}
use Rattle.tetra_core.specs.declared.refusal.Refusal.{Refusal}
use Rattle.tetra_core.specs.declared.address.DownlinkAddress.{DownlinkAddress}
use Rattle.tetra_core.specs.declared.address.UplinkAddress.{UplinkAddress}
use Rattle.tetra_core.specs.BitBuffer.{read_bits, opened}
use Rattle.tetra_core.specs.declared.bitbuffer.Cursor.{Cursor}
use Rattle.tetra_core.specs.declared.bitbuffer.Read.{Read}
use Rattle.tetra_core.specs.declared.bitbuffer.Moved.{Moved}
use Rattle.tetra_fields.specs.declared.enums.basic_slotgrant_cap_alloc.BasicSlotgrantCapAlloc.{BasicSlotgrantCapAlloc}
use Rattle.tetra_fields.specs.declared.enums.basic_slotgrant_granting_delay.BasicSlotgrantGrantingDelay.{BasicSlotgrantGrantingDelay}
use Rattle.tetra_fields.specs.declared.fields.basic_slotgrant.BasicSlotgrant.{BasicSlotgrant}
use Rattle.tetra_fields.specs.BasicSlotgrant.{slotgrant_write, slotgrant_written}
use Rattle.channel_allocation.specs.declared.enums.alloc_type.ChanAllocType.{ChanAllocType}
use Rattle.channel_allocation.specs.declared.enums.ul_dl_assignment.UlDlAssignment.{UlDlAssignment}
use Rattle.channel_allocation.specs.declared.channel_allocation.ChanAllocElement.{ChanAllocElement}
use Rattle.channel_allocation.specs.ChannelAllocation.{compute_len, channel_allocation_at, channel_allocation_write, channel_allocation_written}
use Rattle.access_assign.specs.declared.enums.access_assign_dl_usage.AccessAssignDlUsage.{AccessAssignDlUsage}
use Rattle.access_assign.specs.declared.enums.access_assign_ul_usage.AccessAssignUlUsage.{AccessAssignUlUsage}
use Rattle.access_assign.specs.declared.access_assign.AccessAssign.{AccessAssign}
use Rattle.access_assign.specs.AccessAssign.{default_access_assign, access_assign_at, access_assign_write, access_assign_written}
use Rattle.mac_access.specs.declared.mac_access.MacAccess.{MacAccess}
use Rattle.mac_access.specs.declared.mac_access.MacAccessOption.{MacAccessOption}
use Rattle.mac_access.specs.MacAccess.{mac_access_at, mac_access_write, mac_access_written}
use Rattle.mac_data.specs.declared.mac_data.MacData.{MacData}
use Rattle.mac_data.specs.declared.mac_data.MacDataOption.{MacDataOption}
use Rattle.mac_data.specs.MacData.{mac_data_at, mac_data_write, mac_data_written}
use Rattle.mac_resource.specs.declared.mac_resource.MacResource.{MacResource}
use Rattle.mac_resource.specs.declared.mac_resource.LenAndFill.{LenAndFill}
use Rattle.mac_resource.specs.MacResource.{null_pdu, mac_resource_at, mac_resource_write, mac_resource_written, compute_header_len, update_len_and_fill_ind}
use Rattle.block_rules.specs.declared.to_add.LengthIndication.{LengthIndication}
use Rattle.block_rules.specs.Read.{Reading}
use Rattle.block_rules.specs.Walk.{Pdu, Entry, Walk, step, walk}
use Rattle.block_rules.specs.Writer.{Writer, writer_at, finish_to, add_of, add_to}
use Rattle.block_rules.specs.Run.{Call, run}
use Rattle.block_rules.specs.Downlink.{DownlinkHeader, downlink_reader, HeaderToAdd, resource_to_add, downlink_writer}
use Rattle.mac_block.specs.declared.reader.BlockEntry.{BlockEntry}
use Rattle.mac_block.specs.declared.writer.Written.{Written}
use Rattle.mac_block.specs.Answers.{step_answer, finish_answer, add_answer}

-- what a call answers
pub data Answer : Type 0 where
  -- a header or an element that is written, and the bytes that are left
  Wrote : Moved → (bytes : List ℕ) → Answer
  -- a bare field, and a window over a slice
  ReadField : Read ℕ → Answer
  OpenedWindow : Result Cursor Refusal → Answer
  -- a header or an element that is read
  ReadAllocation : Read ChanAllocElement → Answer
  ReadAssign : Read AccessAssign → Answer
  ReadAccess : Read MacAccess → Answer
  ReadData : Read MacData → Answer
  ReadResource : Read MacResource → Answer
  -- its length: `compute_len`, `compute_header_len`, `update_len_and_fill_ind`
  AllocationLen : Result Bits Reason → Answer
  HeaderBits : Result Bits Reason → Answer
  Octets : Result LenAndFill Reason → Answer
  -- the adds and finishes of a block, each with the writer's bit after it, the bytes that are left, and the walk of the block then
  Block : List Written → (bytes : List ℕ) → Walk DownlinkHeader → Answer
  -- one step in a block
  Step : Result (Option BlockEntry) Refusal → Answer
  -- the places of entries, as demand 3 has them
  Places : List (ℕ × Option ℕ) → Answer

-- a call, and what it should answer
pub record Check : Type 0 where
  pub computed : Answer
  pub stated : Answer

abbrev pub check : Answer → Answer → Check
check x y = record { computed = x; stated = y }

abbrev pub Row : Type 0
Row = List Check

-- in every row both are the same
abbrev pub Hold : List Row → Type 0
Hold [] = Unit {0}
Hold (x ∷ xs) = (map (λ (c : Check). c.computed) x ≡ map (λ (c : Check). c.stated) x) × Hold xs

-- ---- headers and elements

-- the cursor at the bit p of a window of n bits
abbrev pub window : (p n : ℕ) → Cursor
window p n = record { start = 0; pos = p; end = n }

-- a write that is done and leaves the cursor at p
abbrev pub wrote : (p n : ℕ) → List ℕ → Answer
wrote p n bytes = Answer.Wrote (record { cursor = window p n; answer = (Ok tt) }) bytes

abbrev pub octets : (octets fill : ℕ) → Bool → Answer
octets o f flag = Answer.Octets (Ok (record { octets = record { 0 = o }; fill = record { 0 = f }; fill_bits = flag }))

-- replace, slot 1, carrier 1
abbrev pub allocation : UlDlAssignment → (pattern : ℕ) → Option ℕ → ChanAllocElement
allocation d p f =
    record {
      alloc_type = ChanAllocType.Replace;
      ts_assigned = record { ts1 = true; ts2 = false; ts3 = false; ts4 = false };
      ul_dl_assigned = d;
      clch_permission = false;
      cell_change_flag = false;
      carrier_num = 1;
      mon_pattern = p;
      frame18_mon_pattern = f;
    }

-- ---- blocks: the calls on one, as its contracts have them

unfoldable pub answers : (n : ℕ) → List (Call HeaderToAdd) → Writer → List Written
answers n [] w = []
answers n (Call.add a ∷ cs) w = add_answer downlink_writer n w a ∷ answers n cs (add_to downlink_writer n w a)
answers n (Call.finish ∷ cs) w = finish_answer n w ∷ answers n cs (finish_to n w)

-- a block of n bits in these bytes, after these calls from bit p on, and from bit 0 on
unfoldable pub block_from : (p n : ℕ) → List ℕ → List (Call HeaderToAdd) → Answer
block_from p n bytes calls =
    let left = run downlink_writer n calls (writer_at bytes p) in
    Answer.Block (answers n calls (writer_at bytes p)) left.bytes (walk downlink_reader left.bytes n)

abbrev pub block : (n : ℕ) → List ℕ → List (Call HeaderToAdd) → Answer
block n bytes calls = block_from 0 n bytes calls

-- the step from bit p of a block of n bits in these bytes
abbrev pub stepped : List ℕ → (n p : ℕ) → Answer
stepped bytes n p = Answer.Step (step_answer (step downlink_reader bytes n p))

-- a header with a channel allocation or none, and no other element
abbrev pub header : (length : ℕ) → (fill : Bool) → (mode : ℕ) → DownlinkAddress → Option ChanAllocElement → MacResource
header l f m a e =
    record {
      fill_bits = f;
      pos_of_grant = 0;
      encryption_mode = m;
      random_access_flag = false;
      length_ind = l;
      addr = a;
      power_control_element = None;
      slot_granting_element = None;
      chan_alloc_element = e;
    }

abbrev pub plain : (length : ℕ) → (fill : Bool) → (mode : ℕ) → DownlinkAddress → MacResource
plain l f m a = header l f m a None

-- "SSI 1, no elements"
abbrev pub ssi1 : (length : ℕ) → (fill : Bool) → MacResource
ssi1 l f = plain l f 0 (DownlinkAddress.Ssi SsiType.Ssi 1)

-- an add of k bits of content, all ones, out of 60 bytes
abbrev pub adds_header : MacResource → LengthIndication → ℕ → Call HeaderToAdd
adds_header h i k = Call.add (add_of (resource_to_add h i) (replicate 60 0xff) k)

abbrev pub adds : LengthIndication → ℕ → Call HeaderToAdd
adds i k = adds_header (ssi1 0 false) i k

abbrev pub counts : ℕ → Call HeaderToAdd
counts k = adds LengthIndication.Counted k

-- a call that is done, or refused, with the writer's bit after it
abbrev pub done : (bit : ℕ) → Written
done p = record { bit = p; answer = (Ok tt) }

abbrev pub refused : (bit number : ℕ) → Written
refused p j = record { bit = p; answer = Err (reason j) }

abbrev pub entry : (bit : ℕ) → Pdu DownlinkHeader → Entry DownlinkHeader
entry p x = record { bit = p; pdu = x }

-- the entry of a PDU of s bits with such a header, k ones and f bits of fill
abbrev pub pdu : (bit s l : ℕ) → (flag : Bool) → (k f : ℕ) → Entry DownlinkHeader
pdu p s l flag k f = entry p (Pdu.sized s (Reading.read (ssi1 l flag) 43 (replicate k true) f))

abbrev pub null : (bit : ℕ) → Entry DownlinkHeader
null p = entry p (Pdu.null 2)

abbrev pub walked : List (Entry DownlinkHeader) → (rest : ℕ) → Walk DownlinkHeader
walked es p = record { entries = es; rest_at = p }

-- a step's answer: a PDU that is read, with its content's range, one that is null, and one that is refused; or the refusal of the step
abbrev pub was_read_at : (bit end : ℕ) → MacResource → (from to : ℕ) → Answer
was_read_at p e h a b =
    Answer.Step
    (Ok (Some (BlockEntry.Resource (record { bit = p; end = e; header = h; content_start = a; content_end = b }))))

abbrev pub null_at : (bit : ℕ) → Answer
null_at p = Answer.Step (Ok (Some (BlockEntry.Null p)))

abbrev pub refused_at : (bit : ℕ) → Option ℕ → (number offset : ℕ) → Answer
refused_at p e j o =
    Answer.Step (Ok (Some (BlockEntry.Refused (record { bit = p; end = e; refusal = record { reason = reason j; offset = o } }))))

abbrev pub no_step : (number : ℕ) → Answer
no_step j = Answer.Step (Err (record { reason = reason j; offset = 0 }))

-- the bytes of a PDU of 34 octets less 4 bits: its first two, and ones behind the header
abbrev pub ones : ℕ → ℕ → List ℕ
ones a b = a ∷ b ∷ 0x00 ∷ 0x00 ∷ 0x01 ∷ 0x1f ∷ (replicate 27 0xff ++ (0xf0 ∷ []))

-- ---- the rows

-- "Null: 00 10 h."
abbrev pub case_1 : Row
case_1 =
    check (Answer.Wrote (mac_resource_write (0xff ∷ 0xff ∷ []) (window 0 16) null_pdu) (mac_resource_written (0xff ∷ 0xff ∷ []) (window 0 16) null_pdu))
    (wrote 16 16 (0x00 ∷ 0x10 ∷ []))
    ∷ check (Answer.ReadResource (mac_resource_at (0x00 ∷ 0x10 ∷ []) (window 0 16)))
    (Answer.ReadResource (record { cursor = window 16 16; answer = Ok null_pdu }))
    ∷ check (block 16 (0xff ∷ 0xff ∷ []) (Call.finish ∷ [])) (Answer.Block (done 16 ∷ []) (0x00 ∷ 0x10 ∷ []) (walked (null 0 ∷ []) 16))
    ∷ []

-- "SSI 1, no elements, no content: 43 bits, 6 octets, 5 fill: 20 31 00 00 01 10 h."
abbrev pub case_2 : Row
case_2 =
    check (Answer.HeaderBits (compute_header_len (ssi1 0 false))) (Answer.HeaderBits (Ok (record { 0 = 43 })))
    ∷ check (Answer.Octets (update_len_and_fill_ind (ssi1 0 false) 0)) (octets 6 5 true)
    ∷ check (block 48 (replicate 6 0xff) (counts 0 ∷ []))
    (Answer.Block (done 48 ∷ []) (0x20 ∷ 0x31 ∷ 0x00 ∷ 0x00 ∷ 0x01 ∷ 0x10 ∷ []) (walked (pdu 0 48 6 true 0 5 ∷ []) 48))
    ∷ check (Answer.ReadResource (mac_resource_at (0x20 ∷ 0x31 ∷ 0x00 ∷ 0x00 ∷ 0x01 ∷ 0x10 ∷ []) (window 0 48)))
    (Answer.ReadResource (record { cursor = window 43 48; answer = Ok (ssi1 6 true) }))
    ∷ []

-- "Content 5: 6 octets, fill 0; content 6: 7 octets, fill 7."
abbrev pub case_3 : Row
case_3 =
    check (Answer.Octets (update_len_and_fill_ind (ssi1 0 false) 5)) (octets 6 0 false)
    ∷ check (Answer.Octets (update_len_and_fill_ind (ssi1 0 false) 6)) (octets 7 7 true)
    ∷ check (block 104 (replicate 13 0) (counts 5 ∷ counts 6 ∷ []))
    (Answer.Block (done 48 ∷ done 104 ∷ [])
    (0x00 ∷ 0x31 ∷ 0x00 ∷ 0x00 ∷ 0x01 ∷ 0x1f ∷ 0x20 ∷ 0x39 ∷ 0x00 ∷ 0x00 ∷ 0x01 ∷ 0x1f ∷ 0xc0 ∷ [])
    (walked (pdu 0 48 6 false 5 0 ∷ pdu 48 56 7 true 6 7 ∷ []) 104))
    ∷ []

-- "Replace, slot 1, both, carrier 1, pattern 1: 23 00 04 80 h, 25 bits."
abbrev pub replace : ChanAllocElement
replace = allocation UlDlAssignment.Both 1 None

abbrev pub case_4 : Row
case_4 =
    check (Answer.AllocationLen (compute_len replace)) (Answer.AllocationLen (Ok (record { 0 = 25 })))
    ∷ check (Answer.Wrote (channel_allocation_write (replicate 4 0) (window 0 32) replace) (channel_allocation_written (replicate 4 0) (window 0 32) replace))
    (wrote 25 32 (0x23 ∷ 0x00 ∷ 0x04 ∷ 0x80 ∷ []))
    ∷ check (Answer.ReadAllocation (channel_allocation_at (0x23 ∷ 0x00 ∷ 0x04 ∷ 0x80 ∷ []) (window 0 32)))
    (Answer.ReadAllocation (record { cursor = window 25 32; answer = Ok replace }))
    ∷ []

-- "`AccessAssign` default: 06 18 h, 14 bits."
abbrev pub case_5 : Row
case_5 =
    check (Answer.Wrote (access_assign_write (0 ∷ 0 ∷ []) (window 0 16) default_access_assign) (access_assign_written (0 ∷ 0 ∷ []) (window 0 16) default_access_assign))
    (wrote 14 16 (0x06 ∷ 0x18 ∷ []))
    ∷ check (Answer.ReadAssign (access_assign_at (0x06 ∷ 0x18 ∷ []) (window 0 16)))
    (Answer.ReadAssign (record { cursor = window 14 16; answer = Ok default_access_assign }))
    ∷ []

-- "Header 3, downlink 4, uplink 0: C4 00 h; uplink 2 refused 7 at 8."
abbrev pub traffic4 : AccessAssign
traffic4 = AccessAssign.DownlinkDefinedUplinkDefined (AccessAssignDlUsage.Traffic 4) AccessAssignUlUsage.Unallocated

abbrev pub case_6 : Row
case_6 =
    check (Answer.Wrote (access_assign_write (0 ∷ 0 ∷ []) (window 0 16) traffic4) (access_assign_written (0 ∷ 0 ∷ []) (window 0 16) traffic4))
    (wrote 14 16 (0xc4 ∷ 0x00 ∷ []))
    ∷ check (Answer.ReadAssign (access_assign_at (0xc4 ∷ 0x00 ∷ []) (window 0 16)))
    (Answer.ReadAssign (record { cursor = window 14 16; answer = Ok traffic4 }))
    ∷ check (Answer.ReadAssign (access_assign_at (0xc4 ∷ 0x08 ∷ []) (window 0 16)))
    (Answer.ReadAssign (record { cursor = window 0 16; answer = Err (record { reason = reason 7; offset = 8 }) }))
    ∷ []

-- "MAC-ACCESS, SSI 1, no options: 00 00 00 08 h, 30 bits."
abbrev pub access1 : MacAccess
access1 = record { fill_bits = false; encrypted = false; addr = UplinkAddress.Ssi SsiType.Issi 1; option = MacAccessOption.Without }

abbrev pub case_7 : Row
case_7 =
    check (Answer.Wrote (mac_access_write (replicate 4 0) (window 0 32) access1) (mac_access_written (replicate 4 0) (window 0 32) access1))
    (wrote 30 32 (0x00 ∷ 0x00 ∷ 0x00 ∷ 0x08 ∷ []))
    ∷ check (Answer.ReadAccess (mac_access_at (0x00 ∷ 0x00 ∷ 0x00 ∷ 0x08 ∷ []) (window 0 32)))
    (Answer.ReadAccess (record { cursor = window 30 32; answer = Ok access1 }))
    ∷ []

-- "MAC-DATA, label 1, length 5: 04 01 0A h, 23 bits."
abbrev pub data1 : MacData
data1 = record { fill_bits = false; encrypted = false; addr = UplinkAddress.EventLabel 1; option = MacDataOption.LengthInd 5 }

abbrev pub case_8 : Row
case_8 =
    check (Answer.Wrote (mac_data_write (replicate 3 0) (window 0 24) data1) (mac_data_written (replicate 3 0) (window 0 24) data1))
    (wrote 23 24 (0x04 ∷ 0x01 ∷ 0x0A ∷ []))
    ∷ check (Answer.ReadData (mac_data_at (0x04 ∷ 0x01 ∷ 0x0A ∷ []) (window 0 24)))
    (Answer.ReadData (record { cursor = window 23 24; answer = Ok data1 }))
    ∷ []

-- "One PDU of 268 bits in 268: length 34, fill clear; 267: fill one bit."
abbrev pub case_9 : Row
case_9 =
    check (block 268 (replicate 34 0) (counts 225 ∷ Call.finish ∷ []))
    (Answer.Block (done 268 ∷ done 268 ∷ []) (ones 0x01 0x11) (walked (pdu 0 268 34 false 225 0 ∷ []) 268))
    ∷ check (block 268 (replicate 34 0) (counts 224 ∷ Call.finish ∷ []))
    (Answer.Block (done 268 ∷ done 268 ∷ []) (ones 0x21 0x11) (walked (pdu 0 268 34 true 224 1 ∷ []) 268))
    ∷ []

-- "Read in 268: length 34 accepted, 35 refused 8."
abbrev pub case_10 : Row
case_10 =
    check (stepped (ones 0x01 0x11) 268 0) (was_read_at 0 268 (ssi1 34 false) 43 268)
    ∷ check (stepped (ones 0x01 0x19) 268 0) (refused_at 0 None 8 7)
    ∷ []

-- "488 bits give 61 octets; 489 refused 8."
abbrev pub case_11 : Row
case_11 =
    check (Answer.Octets (update_len_and_fill_ind (ssi1 0 false) 445)) (octets 61 0 false)
    ∷ check (Answer.Octets (update_len_and_fill_ind (ssi1 0 false) 446)) (Answer.Octets (Err (reason 8)))
    ∷ check (block 488 (replicate 61 0) (counts 446 ∷ counts 445 ∷ []))
    (Answer.Block (refused 0 8 ∷ done 488 ∷ [])
    (0x01 ∷ 0xe9 ∷ 0x00 ∷ 0x00 ∷ 0x01 ∷ 0x1f ∷ replicate 55 0xff)
    (walked (pdu 0 488 61 false 445 0 ∷ []) 488))
    ∷ []

-- "For 124 bits, 20 31 00 00 01 10 00 10 80 then seven 00 h": the block as it is read, and as it is written over ones. Adds refused 8, 2 and 13,
-- an add after the finish, and a second finish are among the calls, and the four bits past 124 keep their values
abbrev pub listed : (last : ℕ) → List ℕ
listed last = 0x20 ∷ 0x31 ∷ 0x00 ∷ 0x00 ∷ 0x01 ∷ 0x10 ∷ 0x00 ∷ 0x10 ∷ 0x80 ∷ (replicate 6 0x00 ++ (last ∷ []))

abbrev pub listing : Row
listing =
    check (block 124 (listed 0x00) []) (Answer.Block [] (listed 0x00) (walked (pdu 0 48 6 true 0 5 ∷ null 48 ∷ []) 64))
    ∷ check (block 124 (replicate 16 0xff)
    (counts 0
    ∷ counts 446
    ∷ adds LengthIndication.SecondSlotStolen 34
    ∷ adds LengthIndication.FragStart 481
    ∷ Call.finish
    ∷ adds LengthIndication.FragStart 0
    ∷ Call.finish
    ∷ []))
    (Answer.Block (done 48 ∷ refused 48 8 ∷ refused 48 2 ∷ refused 48 13 ∷ done 124 ∷ refused 124 2 ∷ done 124 ∷ [])
    (listed 0x0f)
    (walked (pdu 0 48 6 true 0 5 ∷ null 48 ∷ []) 64))
    ∷ []

-- a write that is refused leaves the cursor at 0 and the bytes
abbrev pub not_written : (number n : ℕ) → List ℕ → Answer
not_written j n bytes = Answer.Wrote (record { cursor = window 0 n; answer = Err (reason j) }) bytes

abbrev pub resource_written : MacResource → Answer
resource_written h = Answer.Wrote (mac_resource_write (replicate 6 0) (window 0 48) h) (mac_resource_written (replicate 6 0) (window 0 48) h)

-- "pattern 0, none"
abbrev pub patternless : ChanAllocElement
patternless = allocation UlDlAssignment.Both 0 None

-- "delay count 14"
abbrev pub delay14 : BasicSlotgrant
delay14 = record { capacity_allocation = BasicSlotgrantCapAlloc.Grant4Slots; granting_delay = BasicSlotgrantGrantingDelay.DelayNOpportunities 14 }

-- The refusal table, the example of each number: 1 "3 bits left, 4 read"; 2 "269 bits into 268"; 3 "label 1024"; 4 "first bits 01b"; 5 "flag 1";
-- 6 "direction 0"; 9 "null, fill set"; 10 "mode 1, SSI 1"; 11; 12 "all zeros"; 13 "count 9, one byte"; 14. Those of 7 and 8 are cases 6 and 11
abbrev pub refusals : Row
refusals =
    check (Answer.ReadField (read_bits (0xff ∷ []) (window 5 8) 4))
    (Answer.ReadField (record { cursor = window 5 8; answer = Err (record { reason = reason 1; offset = 0 }) }))
    ∷ check (block 268 (replicate 34 0) (counts 226 ∷ [])) (Answer.Block (refused 0 2 ∷ []) (replicate 34 0) (walked (entry 0 (Pdu.null 0) ∷ []) 16))
    ∷ check (resource_written (plain 6 false 0 (DownlinkAddress.EventLabel 1024))) (not_written 3 48 (replicate 6 0))
    ∷ check (Answer.ReadResource (mac_resource_at (0x40 ∷ 0x00 ∷ []) (window 0 16)))
    (Answer.ReadResource (record { cursor = window 0 16; answer = Err (record { reason = reason 4; offset = 0 }) }))
    ∷ check (Answer.ReadAllocation (channel_allocation_at (0x23 ∷ 0x00 ∷ 0x06 ∷ 0x80 ∷ []) (window 0 32)))
    (Answer.ReadAllocation (record { cursor = window 0 32; answer = Err (record { reason = reason 5; offset = 22 }) }))
    ∷ check (Answer.ReadAllocation (channel_allocation_at (0x20 ∷ 0x00 ∷ 0x04 ∷ 0x80 ∷ []) (window 0 32)))
    (Answer.ReadAllocation (record { cursor = window 0 32; answer = Err (record { reason = reason 6; offset = 6 }) }))
    ∷ check (resource_written (plain 2 true 0 DownlinkAddress.NullPdu)) (not_written 9 48 (replicate 6 0))
    ∷ check (resource_written (plain 6 false 1 (DownlinkAddress.Ssi SsiType.Ssi 1))) (not_written 10 48 (replicate 6 0))
    ∷ check (Answer.Wrote (channel_allocation_write (replicate 4 0) (window 0 32) patternless) (channel_allocation_written (replicate 4 0) (window 0 32) patternless))
    (not_written 11 32 (replicate 4 0))
    ∷ check (stepped (0x20 ∷ 0x31 ∷ 0x00 ∷ 0x00 ∷ 0x01 ∷ 0x00 ∷ []) 48 0) (refused_at 0 (Some 48) 12 43)
    ∷ check (Answer.OpenedWindow (opened 1 9)) (Answer.OpenedWindow (Err (record { reason = reason 13; offset = 0 })))
    ∷ check (Answer.Wrote (slotgrant_write (0xff ∷ []) (window 0 8) delay14) (slotgrant_written (0xff ∷ []) (window 0 8) delay14))
    (not_written 14 8 (0xff ∷ []))
    ∷ []

abbrev pub cases : List Row
cases = case_1 ∷ case_2 ∷ case_3 ∷ case_4 ∷ case_5 ∷ case_6 ∷ case_7 ∷ case_8 ∷ case_9 ∷ case_10 ∷ case_11 ∷ listing ∷ refusals ∷ []
