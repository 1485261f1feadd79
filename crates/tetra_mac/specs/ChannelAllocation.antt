-- The channel allocation as a record of 9 words: allocation type 0 to 3; timeslots as 4 bits (slot 1 is 8); direction 0 to 3; CLCH permission;
-- cell change; carrier; monitoring pattern; frame-18 pattern present; frame-18 pattern.
use Rattle.std.specs.Prelude.{ℕ, min, List, [], ◌∷◌, Bool, ◌&&◌, length, leb, None, Option, Result, Some}
use Rattle.bits.specs.Bits.{digit}
use Rattle.tetra_core.specs.declared.bitbuffer.Cursor.{Cursor}
use Rattle.tetra_core.specs.declared.quantity.Bits.{Bits}
use Rattle.tetra_core.specs.declared.refusal.Reason.{Reason}
use Rattle.codec.specs.Cases.{flag}
use Rattle.channel_allocation.specs.ChannelAllocation.{alloc_type_number, alloc_type_of, ul_dl_number, ul_dl_of, timeslots_number, timeslots_of, frame18_number, channel_allocation_at, channel_allocation_write, channel_allocation_written, compute_len}
use Rattle.channel_allocation.specs.declared.channel_allocation.ChanAllocElement.{ChanAllocElement}
use Rattle.tetra_mac.specs.Reply.{Reply, WriteReply, bits_counted, header_read_reply, write_reply, record_reply, value_if, number_if, word}

-- ---- the words of a channel allocation

abbrev pub frame18_present : Option ℕ → ℕ
frame18_present None = 0
frame18_present (Some v) = 1

abbrev pub channel_allocation_words : ChanAllocElement → List ℕ
channel_allocation_words e =
    alloc_type_number e.alloc_type
    ∷ timeslots_number e.ts_assigned
    ∷ ul_dl_number e.ul_dl_assigned
    ∷ digit e.clch_permission
    ∷ digit e.cell_change_flag
    ∷ e.carrier_num
    ∷ e.mon_pattern
    ∷ frame18_present e.frame18_mon_pattern
    ∷ frame18_number e.frame18_mon_pattern
    ∷ []

-- ---- the channel allocation of words

unfoldable pub channel_allocation_known : List ℕ → Bool
channel_allocation_known ws = leb 9 (length ws) && (leb (word ws 0) 3 && (leb (word ws 1) 15 && leb (word ws 2) 3))

abbrev pub frame18_value : ℕ → ℕ → Option ℕ
frame18_value = number_if

unfoldable pub channel_allocation_value : List ℕ → ChanAllocElement
channel_allocation_value ws =
    record {
      alloc_type = alloc_type_of (word ws 0);
      ts_assigned = timeslots_of (word ws 1);
      ul_dl_assigned = ul_dl_of (word ws 2);
      clch_permission = flag (word ws 3);
      cell_change_flag = flag (word ws 4);
      carrier_num = min (word ws 5) 65535;
      mon_pattern = min (word ws 6) 255;
      frame18_mon_pattern = frame18_value (word ws 7) (min (word ws 8) 255);
    }

abbrev pub channel_allocation_of_words : List ℕ → Option ChanAllocElement
channel_allocation_of_words ws = value_if (channel_allocation_known ws) (channel_allocation_value ws)

-- ---- the calls

abbrev pub channel_allocation_read_reply : List ℕ → Cursor → List ℕ → Reply
channel_allocation_read_reply s c out = header_read_reply channel_allocation_words 10 (channel_allocation_at s c) out

abbrev pub channel_allocation_write_reply : List ℕ → Cursor → List ℕ → List ℕ → WriteReply
channel_allocation_write_reply s c ws out =
    write_reply (channel_allocation_write s c) (channel_allocation_written s c) s (channel_allocation_of_words ws) out

abbrev pub chan_alloc_len_reply : List ℕ → Result Bits Reason → Reply
chan_alloc_len_reply = bits_counted

abbrev pub channel_allocation_len_reply : List ℕ → List ℕ → Reply
channel_allocation_len_reply ws out = record_reply (λ e. chan_alloc_len_reply out (compute_len e)) 1 (channel_allocation_of_words ws) out
