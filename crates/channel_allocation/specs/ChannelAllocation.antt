-- The channel allocation (document 01): "Allocation type 2 (0 replace, 1 additional, 2 quit and go, 3 replace with carrier signalling),
-- timeslots 4 (slot 1 first), direction 2 (0 augmented, 1 down, 2 up, 3 both), CLCH permission 1, cell change 1, carrier 12, extension flag
-- 1, monitoring pattern 2, and frame-18 pattern 2 only where the pattern is 0. Length 27 bits with pattern 0, else 25."
use Rattle.std.specs.Prelude.{ℕ, zero, suc, ◌+◌, ◌*◌, ◌/◌, ◌%◌, ◌^◌, List, [], ◌∷◌, ◌++◌, Bool, cond, get_or, eqb, ltb, Err, None, Ok, Option, Result, Some}
use Rattle.bits.specs.Bits.{digit}
use Rattle.tetra_core.specs.Refusal.{reason, unless, first}
use Rattle.tetra_core.specs.declared.bitbuffer.Cursor.{Cursor}
use Rattle.tetra_core.specs.declared.bitbuffer.Read.{Read}
use Rattle.tetra_core.specs.declared.quantity.Bits.{Bits}
use Rattle.tetra_core.specs.declared.bitbuffer.Moved.{Moved}
use Rattle.tetra_core.specs.declared.refusal.Reason.{Reason}
use Rattle.codec.specs.Reader.{Reader, done, refuse, field, here, choose, ◌>>=◌}
use Rattle.codec.specs.Header.{at_cursor}
use Rattle.codec.specs.Row.{Cell, cell, row_bits}
use Rattle.codec.specs.Write.{write_at, written_at}
use Rattle.codec.specs.Cases.{case_up_to, flag}
use Rattle.codec.specs.declared.cases.NoCase.{NoCase}
use Rattle.channel_allocation.specs.declared.enums.alloc_type.ChanAllocType.{ChanAllocType}
use Rattle.channel_allocation.specs.declared.enums.alloc_type.ChanAllocType.TheVariants.{Replace, Additional, QuitAndGo, ReplaceWithCarrierSignalling}
use Rattle.channel_allocation.specs.declared.enums.ul_dl_assignment.UlDlAssignment.{UlDlAssignment}
use Rattle.channel_allocation.specs.declared.enums.ul_dl_assignment.UlDlAssignment.TheVariants.{Augmented, Dl, Ul, Both}
use Rattle.channel_allocation.specs.declared.channel_allocation.TimeslotsAssigned.{TimeslotsAssigned}
use Rattle.channel_allocation.specs.declared.channel_allocation.MonPatterns.{MonPatterns}
use Rattle.channel_allocation.specs.declared.channel_allocation.ChanAllocElement.{ChanAllocElement}

-- ---- the number of each case

abbrev pub alloc_type_number : ChanAllocType → ℕ
alloc_type_number Replace = 0
alloc_type_number Additional = 1
alloc_type_number QuitAndGo = 2
alloc_type_number ReplaceWithCarrierSignalling = 3

-- the cases of 0 to 2; 3 is the last number of 2 bits
abbrev pub alloc_types : List ChanAllocType
alloc_types = Replace ∷ Additional ∷ QuitAndGo ∷ []

-- the case of a field's bits, the low 2 of a number
unfoldable pub alloc_type_of : ℕ → ChanAllocType
alloc_type_of v = get_or alloc_types (v % 4) ReplaceWithCarrierSignalling

-- of a number, where it is one of 2 bits
abbrev pub alloc_type_case : ℕ → Result ChanAllocType NoCase
alloc_type_case = case_up_to 3 alloc_type_of

abbrev pub ul_dl_number : UlDlAssignment → ℕ
ul_dl_number Augmented = 0
ul_dl_number Dl = 1
ul_dl_number Ul = 2
ul_dl_number Both = 3

abbrev pub ul_dls : List UlDlAssignment
ul_dls = Augmented ∷ Dl ∷ Ul ∷ []

-- the case of a field's bits, the low 2 of a number
unfoldable pub ul_dl_of : ℕ → UlDlAssignment
ul_dl_of v = get_or ul_dls (v % 4) Both

-- of a number, where it is one of 2 bits
abbrev pub ul_dl_case : ℕ → Result UlDlAssignment NoCase
ul_dl_case = case_up_to 3 ul_dl_of

-- "slot 1 first"
abbrev pub timeslots_number : TimeslotsAssigned → ℕ
timeslots_number t = digit t.ts1 * 8 + digit t.ts2 * 4 + digit t.ts3 * 2 + digit t.ts4

abbrev pub timeslots_of : ℕ → TimeslotsAssigned
timeslots_of v = record { ts1 = flag (v / 8 % 2); ts2 = flag (v / 4 % 2); ts3 = flag (v / 2 % 2); ts4 = flag (v % 2) }

abbrev pub frame18_number : Option ℕ → ℕ
frame18_number None = 0
frame18_number (Some v) = v

-- ---- how many bits: up to the extension flag, of the patterns at most, and of the whole, "27 bits with pattern 0, else 25"

abbrev pub head_len : ℕ
head_len = 23

abbrev pub mon_patterns_most : ℕ
mon_patterns_most = 4

abbrev pub channel_allocation_least : ℕ
channel_allocation_least = head_len + 2

abbrev pub channel_allocation_most : ℕ
channel_allocation_most = head_len + mon_patterns_most

-- ---- what is read

unfoldable pub read_mon_patterns : Reader MonPatterns
read_mon_patterns = do
  pattern ← field 2 done
  choose (eqb pattern 0)
      (do
        v ← field 2 done
        done (record { mon_pattern = pattern; frame18_mon_pattern = Some v }))
      (done (record { mon_pattern = pattern; frame18_mon_pattern = None }))

-- "A set extension flag is refused when read; augmented is refused after the patterns are read"
unfoldable pub read_channel_allocation : Reader ChanAllocElement
read_channel_allocation = do
  allocation ← field 2 done
  slots ← field 4 done
  at-direction ← here done
  direction ← field 2 done
  clch ← field 1 done
  cell-change ← field 1 done
  carrier ← field 12 done
  at-extension ← here done
  extension ← field 1 done
  choose (flag extension) (refuse 5 at-extension) do
    p ← read_mon_patterns
    choose (eqb direction 0) (refuse 6 at-direction) do
      done (record {
        alloc_type = alloc_type_of allocation;
        ts_assigned = timeslots_of slots;
        ul_dl_assigned = ul_dl_of direction;
        clch_permission = flag clch;
        cell_change_flag = flag cell-change;
        carrier_num = carrier;
        mon_pattern = p.mon_pattern;
        frame18_mon_pattern = p.frame18_mon_pattern;
      })

-- the same of its first 23 bits as one number, with its patterns
abbrev pub element_of : ℕ → MonPatterns → ChanAllocElement
element_of x p =
    record {
      alloc_type = alloc_type_of (x / 2 ^ 21 % 4);
      ts_assigned = timeslots_of (x / 2 ^ 17 % 16);
      ul_dl_assigned = ul_dl_of (x / 2 ^ 15 % 4);
      clch_permission = flag (x / 2 ^ 14 % 2);
      cell_change_flag = flag (x / 2 ^ 13 % 2);
      carrier_num = x / 2 ^ 1 % 4096;
      mon_pattern = p.mon_pattern;
      frame18_mon_pattern = p.frame18_mon_pattern;
    }

-- the same at a cursor
unfoldable pub channel_allocation_at : List ℕ → Cursor → Read ChanAllocElement
channel_allocation_at = at_cursor read_channel_allocation

-- ---- what is written

-- "pattern 0 lacks frame-18 pattern"; beside another pattern it is not written and not checked
abbrev pub pattern_refusal : Option ℕ → ℕ
pattern_refusal None = 11
pattern_refusal (Some v) = unless (ltb v (2 ^ 2)) 3

unfoldable pub frame18_refusal : ℕ → Option ℕ → ℕ
frame18_refusal pattern p = cond (eqb pattern 0) (pattern_refusal p) 0

abbrev pub ul_dl_refusal : UlDlAssignment → ℕ
ul_dl_refusal Augmented = 6
ul_dl_refusal Dl = 0
ul_dl_refusal Ul = 0
ul_dl_refusal Both = 0

-- "The three length functions refuse 6 for direction 0"
unfoldable pub len_refusal : ChanAllocElement → ℕ
len_refusal e = ul_dl_refusal e.ul_dl_assigned

-- field by field, "6 after the patterns"
unfoldable pub channel_allocation_refusal : ChanAllocElement → ℕ
channel_allocation_refusal e =
    first
    (unless (ltb e.carrier_num (2 ^ 12)) 3
    ∷ unless (ltb e.mon_pattern (2 ^ 2)) 3
    ∷ frame18_refusal e.mon_pattern e.frame18_mon_pattern
    ∷ len_refusal e
    ∷ [])

-- up to the extension flag, which is 0
unfoldable pub head_row : ChanAllocElement → List Cell
head_row e =
    cell 2 (alloc_type_number e.alloc_type)
    ∷ cell 4 (timeslots_number e.ts_assigned)
    ∷ cell 2 (ul_dl_number e.ul_dl_assigned)
    ∷ cell 1 (digit e.clch_permission)
    ∷ cell 1 (digit e.cell_change_flag)
    ∷ cell 12 e.carrier_num
    ∷ cell 1 0
    ∷ []

-- "frame-18 pattern 2 only where the pattern is 0"
unfoldable pub patterns_row : ChanAllocElement → List Cell
patterns_row e = cell 2 e.mon_pattern ∷ cond (eqb e.mon_pattern 0) (cell 2 (frame18_number e.frame18_mon_pattern) ∷ []) []

unfoldable pub channel_allocation_bits : ChanAllocElement → List Bool
channel_allocation_bits e = row_bits (head_row e) ++ row_bits (patterns_row e)

-- how many they are, also of an element that is refused
unfoldable pub channel_allocation_len : ChanAllocElement → ℕ
channel_allocation_len e = cond (eqb e.mon_pattern 0) channel_allocation_most channel_allocation_least

-- a length whose refusal is j, or 0 if nothing refuses it
abbrev pub len_or : ℕ → ℕ → Result Bits Reason
len_or zero n = Ok (record { 0 = n })
len_or (suc j) n = Err (reason (suc j))

unfoldable pub compute_len : ChanAllocElement → Result Bits Reason
compute_len e = len_or (len_refusal e) (channel_allocation_len e)

abbrev pub channel_allocation_write : List ℕ → Cursor → ChanAllocElement → Moved
channel_allocation_write s c e = write_at s c (channel_allocation_refusal e) (channel_allocation_bits e)

abbrev pub channel_allocation_written : List ℕ → Cursor → ChanAllocElement → List ℕ
channel_allocation_written s c e = written_at s c (channel_allocation_refusal e) (channel_allocation_bits e)

-- "a frame-18 pattern without pattern 0 vanishes"
unfoldable pub normal_channel_allocation : ChanAllocElement → ChanAllocElement
normal_channel_allocation e =
    record {
      alloc_type = e.alloc_type;
      ts_assigned = e.ts_assigned;
      ul_dl_assigned = e.ul_dl_assigned;
      clch_permission = e.clch_permission;
      cell_change_flag = e.cell_change_flag;
      carrier_num = e.carrier_num;
      mon_pattern = e.mon_pattern;
      frame18_mon_pattern = cond (eqb e.mon_pattern 0) e.frame18_mon_pattern None;
    }
