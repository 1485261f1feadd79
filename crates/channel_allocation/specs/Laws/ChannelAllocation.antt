-- A channel allocation that nothing refuses fits its bits and is as long as its length says; what was written is read back in its normal
-- form, and what was read is written as the same bits.
use Rattle.std.specs.Prelude.{ℕ, ◌-◌, zero, suc, ◌+◌, ◌*◌, ◌≤◌, ◌<◌, ◌≡◌, refl, Bool, cond, length, take, ltb, Err, None, Ok, Option, Some}
use mathlib.Core.List.{List, [], ◌∷◌, ◌++◌, append_assoc, append-nil}
use Rattle.std.proofs.Math.Bool.{true, false}
use Rattle.std.proofs.Common.{arith, zero-add, length-append, lit<, lit≤}
use Rattle.std.proofs.Math.Nat.{add_assoc}
use Rattle.std.proofs.Math.Dec.{eqb}
use borrow.Author.Tests.{ltb-true, eqb-true, eqb-false, lt-ltb, eq-eqb, ne_eqb, not-false}
use Rattle.bits.specs.Bits.{digit, bits_of_nat}
use Rattle.tetra_core.specs.BitBuffer.{moved}
use Rattle.tetra_core.specs.Refusal.{number, numbered, unless, first, first-none, passed}
use Rattle.bits.proofs.Laws.Values.{digit_lt}
use Rattle.tetra_core.specs.declared.bitbuffer.Cursor.{Cursor}
use Rattle.tetra_core.specs.declared.refusal.Reason.{Reason}
use Rattle.codec.specs.Reader.{got, parse}
use Rattle.codec.proofs.Laws.Words.{field-alone}
use Rattle.codec.specs.Row.{cell, size, row_bits, RowFits}
use Rattle.codec.proofs.Laws.Row.{length_row}
use Rattle.codec.specs.Write.{refusal_at}
use Rattle.codec.proofs.Laws.Write.{free}
use Rattle.codec.specs.RoundTrip.{parse_row}
use Rattle.codec.proofs.Laws.RoundTrip.{parse_row_lem, written_back}
use Rattle.codec.specs.WrittenAgain.{Every}
use Rattle.codec.proofs.Laws.WrittenAgain.{every_read}
use Rattle.codec.specs.Cases.{flag}
use Rattle.codec.proofs.Laws.Cases.{flag-back, flag-again}
use Rattle.codec.proofs.Laws.AllBelow.{numbers}
use Rattle.channel_allocation.specs.ChannelAllocation.{alloc_type_number, alloc_type_of, ul_dl_number, ul_dl_of, ul_dl_refusal, timeslots_number, timeslots_of, frame18_number, read_mon_patterns, read_channel_allocation, channel_allocation_at, pattern_refusal, frame18_refusal, len_refusal, channel_allocation_refusal, head_len, head_row, patterns_row, channel_allocation_bits, channel_allocation_least, channel_allocation_most, channel_allocation_len, len_or, compute_len, channel_allocation_written, normal_channel_allocation}
use Rattle.channel_allocation.specs.declared.enums.alloc_type.ChanAllocType.{ChanAllocType}
use Rattle.channel_allocation.specs.declared.enums.alloc_type.ChanAllocType.TheVariants.{Replace, Additional, QuitAndGo, ReplaceWithCarrierSignalling}
use Rattle.channel_allocation.specs.declared.enums.ul_dl_assignment.UlDlAssignment.{UlDlAssignment}
use Rattle.channel_allocation.specs.declared.enums.ul_dl_assignment.UlDlAssignment.TheVariants.{Augmented, Dl, Ul, Both}
use Rattle.channel_allocation.specs.declared.channel_allocation.TimeslotsAssigned.{TimeslotsAssigned}
use Rattle.channel_allocation.specs.declared.channel_allocation.ChanAllocElement.{ChanAllocElement}

-- the number of a case has 2 bits and gives the case
pub alloc_type-back : (a : ChanAllocType) → (alloc_type_number a < 4) × (alloc_type_of (alloc_type_number a) ≡ a)
unfolding alloc_type_of
alloc_type-back Replace = (lit< tt, refl)
alloc_type-back Additional = (lit< tt, refl)
alloc_type-back QuitAndGo = (lit< tt, refl)
alloc_type-back ReplaceWithCarrierSignalling = (lit< tt, refl)

pub ul_dl_back : (a : UlDlAssignment) → (ul_dl_number a < 4) × (ul_dl_of (ul_dl_number a) ≡ a)
unfolding ul_dl_of
ul_dl_back Augmented = (lit< tt, refl)
ul_dl_back Dl = (lit< tt, refl)
ul_dl_back Ul = (lit< tt, refl)
ul_dl_back Both = (lit< tt, refl)

-- a direction that is not refused is not 0
pub ul_dl_told : (a : UlDlAssignment) → ul_dl_refusal a ≡ 0 → ul_dl_number a ≡ 0 → ⊥
ul_dl_told Augmented e z = omega arith
ul_dl_told Dl e z = omega arith
ul_dl_told Ul e z = omega arith
ul_dl_told Both e z = omega arith

-- timeslots have 4 bits, and their number gives them
pub timeslots_lt : (t : TimeslotsAssigned) → timeslots_number t < 16
timeslots_lt t = omega (arith, digit_lt t.ts1, digit_lt t.ts2, digit_lt t.ts3, digit_lt t.ts4)

slots : (a b c d : Bool) → timeslots_of (digit a * 8 + digit b * 4 + digit c * 2 + digit d) ≡ record { ts1 = a; ts2 = b; ts3 = c; ts4 = d }
slots true true true true = refl
slots true true true false = refl
slots true true false true = refl
slots true true false false = refl
slots true false true true = refl
slots true false true false = refl
slots true false false true = refl
slots true false false false = refl
slots false true true true = refl
slots false true true false = refl
slots false true false true = refl
slots false true false false = refl
slots false false true true = refl
slots false false true false = refl
slots false false false true = refl
slots false false false false = refl

pub timeslots_back : (t : TimeslotsAssigned) → timeslots_of (timeslots_number t) ≡ t
timeslots_back t = slots t.ts1 t.ts2 t.ts3 t.ts4

-- a frame-18 pattern that is not refused has 2 bits, and its number gives it
pub pattern-back : (p : Option ℕ) → pattern_refusal p ≡ 0 → (frame18_number p < 4) × (Some (frame18_number p) ≡ p)
pattern-back None e = absurd (omega arith)
pattern-back (Some v) e = (ltb-true v 4 (passed _ 2 e), refl)

-- ---- the length

pub channel_allocation-length : (e : ChanAllocElement) → length (channel_allocation_bits e) ≡ channel_allocation_len e
unfolding channel_allocation_bits head_row patterns_row channel_allocation_len
channel_allocation-length e = rw (length-append, length_row (head_row e), length_row (patterns_row e)) (go (eqb e.mon_pattern 0))
  where
    go : (b : Bool) → head_len + (2 + size (cond b (cell 2 (frame18_number e.frame18_mon_pattern) ∷ []) [])) ≡ cond b channel_allocation_most channel_allocation_least
    go true = refl
    go false = refl

pub channel_allocation-len : (e : ChanAllocElement) → (channel_allocation_least ≤ channel_allocation_len e) × (channel_allocation_len e ≤ channel_allocation_most)
unfolding channel_allocation_len
channel_allocation-len e = go (eqb e.mon_pattern 0)
  where
    go : (b : Bool) → (channel_allocation_least ≤ cond b channel_allocation_most channel_allocation_least) × (cond b channel_allocation_most channel_allocation_least ≤ channel_allocation_most)
    go true = (lit≤ tt, lit≤ tt)
    go false = (lit≤ tt, lit≤ tt)

-- a length that is refused, for the reason r as the code has it
pub len-refused : (r : Reason) (j n : ℕ) → number r ≡ j → Err r ≡ len_or j n
len-refused r zero n e = absurd ((numbered r).some e)
len-refused r (suc j) n e = rw (← e, (numbered r).back)

-- ---- an element that nothing refuses

module _ (e : ChanAllocElement) (h : channel_allocation_refusal e ≡ 0) where
  -- what each check told
  pub channel_allocation-told : (e.carrier_num < 4096) × (e.mon_pattern < 4) × (frame18_refusal e.mon_pattern e.frame18_mon_pattern ≡ 0) × (len_refusal e ≡ 0)
  unfolding channel_allocation_refusal
  channel_allocation-told =
      let a = first-none (unless (ltb e.carrier_num 4096) 3) _ h in
      let b = first-none (unless (ltb e.mon_pattern 4) 3) _ a.1 in
      let c = first-none (frame18_refusal e.mon_pattern e.frame18_mon_pattern) _ b.1 in
      (ltb-true _ _ (passed _ 2 a.0), ltb-true _ _ (passed _ 2 b.0), c.0, (first-none (len_refusal e) _ c.1).0)

  -- where it is written
  pub frame18-fits : e.mon_pattern ≡ 0 → (frame18_number e.frame18_mon_pattern < 4) × (Some (frame18_number e.frame18_mon_pattern) ≡ e.frame18_mon_pattern)
  unfolding frame18_refusal
  frame18-fits z = pattern-back e.frame18_mon_pattern (rw (eq-eqb _ _ z) at channel_allocation-told.2)

  pub head_fits : RowFits (head_row e)
  unfolding head_row
  head_fits = (
    (alloc_type-back e.alloc_type).0,
    (
      timeslots_lt e.ts_assigned,
      (
        (ul_dl_back e.ul_dl_assigned).0,
        (digit_lt e.clch_permission, (digit_lt e.cell_change_flag, (channel_allocation-told.0, (lit< tt, tt)))),
      ),
    ),
  )

  -- a write that is accepted has the length that is computed
  pub channel_allocation-counted : compute_len e ≡ Ok (record { 0 = length (channel_allocation_bits e) })
  unfolding compute_len
  channel_allocation-counted = rw (channel_allocation-told.3, channel_allocation-length e)

  -- whatever follows its bits
  pub channel_allocation-back : (rest : List Bool) (o : ℕ)
      → parse read_channel_allocation (channel_allocation_bits e ++ rest) o ≡ got (normal_channel_allocation e) rest (o + channel_allocation_len e)
  unfolding read_channel_allocation read_mon_patterns head_row patterns_row channel_allocation_bits channel_allocation_len len_refusal normal_channel_allocation row_bits
  channel_allocation-back rest o =
      rw (
        append_assoc (row_bits (head_row e)) (row_bits (patterns_row e)) rest,
        parse_row_lem read_channel_allocation (head_row e) 0 (row_bits (patterns_row e) ++ rest) o head_fits,
      )
      (tail (eqb e.mon_pattern 0) refl)
    where
      tail : (b : Bool) → eqb e.mon_pattern 0 ≡ b
          → parse_row read_channel_allocation (head_row e) 0 (row_bits (patterns_row e) ++ rest) o ≡ got (normal_channel_allocation e) rest (o + channel_allocation_len e)
      tail true p =
          let f = frame18-fits (eqb-true _ _ p) in
          rw (
            p,
            append-nil,
            append_assoc,
            field-alone 2 e.mon_pattern _ (o + 23) channel_allocation-told.1,
            p,
            field-alone 2 (frame18_number e.frame18_mon_pattern) rest (o + 23 + 2) f.0,
            f.1,
            ne_eqb _ _ (ul_dl_told e.ul_dl_assigned channel_allocation-told.3),
            (alloc_type-back e.alloc_type).1,
            timeslots_back e.ts_assigned,
            (ul_dl_back e.ul_dl_assigned).1,
            flag-back e.clch_permission,
            flag-back e.cell_change_flag,
            add_assoc o 23 2,
            add_assoc o 25 2,
          )
      tail false p =
          rw (
            p,
            append-nil,
            field-alone 2 e.mon_pattern rest (o + 23) channel_allocation-told.1,
            p,
            ne_eqb _ _ (ul_dl_told e.ul_dl_assigned channel_allocation-told.3),
            (alloc_type-back e.alloc_type).1,
            timeslots_back e.ts_assigned,
            (ul_dl_back e.ul_dl_assigned).1,
            flag-back e.clch_permission,
            flag-back e.cell_change_flag,
            add_assoc o 23 2,
          )

-- in bytes: what to_bitbuf wrote, from_bitbuf reads at the same cursor
pub channel_allocation-written-back : (s : List ℕ) (c : Cursor) (e : ChanAllocElement) → refusal_at (length s) c (channel_allocation_refusal e) (channel_allocation_len e) ≡ 0
    → channel_allocation_at (channel_allocation_written s c e) c
    ≡ record { cursor = moved c (channel_allocation_len e); answer = Ok (normal_channel_allocation e) }
unfolding channel_allocation_at
channel_allocation-written-back s c e h =
    written_back read_channel_allocation s c (channel_allocation_refusal e) (channel_allocation_bits e) (channel_allocation-length e)
    (λ rest. rw zero-add at (channel_allocation-back e (free _ _ _ _ h).value rest 0)) h

-- ---- what is read, written again

alloc_type-numbers : (v : ℕ) → v < 4 → alloc_type_number (alloc_type_of v) ≡ v
unfolding alloc_type_of
alloc_type-numbers = numbers alloc_type_number alloc_type_of 4 refl

ul_dl_numbers : (v : ℕ) → v < 4 → ul_dl_number (ul_dl_of v) ≡ v
unfolding ul_dl_of
ul_dl_numbers = numbers ul_dl_number ul_dl_of 4 refl

-- a direction other than 0 is written
ul_dl_free : (v : ℕ) → v < 4 → (v ≡ 0 → ⊥) → ul_dl_refusal (ul_dl_of v) ≡ 0
unfolding ul_dl_of
ul_dl_free zero h z = absurd (z refl)
ul_dl_free (suc zero) h z = refl
ul_dl_free (suc (suc zero)) h z = refl
ul_dl_free (suc (suc (suc zero))) h z = refl
ul_dl_free (suc (suc (suc (suc v)))) h z = absurd (omega arith)

-- an element is not refused, it is in normal form, and its bits are xs
abbrev pub ChannelAllocationAgain : ChanAllocElement → List Bool → Type 0
ChannelAllocationAgain e xs = (channel_allocation_refusal e ≡ 0) × (normal_channel_allocation e ≡ e) × (channel_allocation_bits e ≡ xs)

-- the fields that are read, with the frame-18 pattern p, whose bits are ys
fields-again : {a t d c f k x m : ℕ} (p : Option ℕ) (ys : List Bool) → a < 4 → t < 16 → d < 4 → eqb d 0 ≡ false → c < 2 → f < 2 → k < 4096 → x < 2 → flag x ≡ false → m < 4
    → cond (eqb m 0) (pattern_refusal p) 0 ≡ 0 → cond (eqb m 0) p None ≡ p → row_bits (cond (eqb m 0) (cell 2 (frame18_number p) ∷ []) []) ≡ ys
    → ChannelAllocationAgain
    (record {
      alloc_type = alloc_type_of a;
      ts_assigned = timeslots_of t;
      ul_dl_assigned = ul_dl_of d;
      clch_permission = flag c;
      cell_change_flag = flag f;
      carrier_num = k;
      mon_pattern = m;
      frame18_mon_pattern = p;
    })
    (bits_of_nat 2 a ++ (bits_of_nat 4 t ++ (bits_of_nat 2 d ++ (bits_of_nat 1 c ++ (bits_of_nat 1 f ++ (bits_of_nat 12 k ++ (bits_of_nat 1 x ++ (bits_of_nat 2 m ++ ys))))))))
unfolding channel_allocation_refusal frame18_refusal len_refusal channel_allocation_bits head_row patterns_row normal_channel_allocation row_bits first
fields-again {a} {t} {d} {c} {f} {k} {x} {m} p ys ha ht hd d0 hc hf hk hx x0 hm free stays tail = (
  rw (lt-ltb k 4096 hk, lt-ltb m 4 hm, free, ul_dl_free d hd (eqb-false d 0 d0)),
  rw stays,
  rw (
    alloc_type-numbers a ha,
    numbers timeslots_number timeslots_of 16 refl t ht,
    ul_dl_numbers d hd,
    flag-again c hc,
    flag-again f hf,
    tail,
    eqb-true x 0 (not-false _ x0),
  )
      (simp append_assoc),
)

pub channel_allocation_every : Every read_channel_allocation ChannelAllocationAgain
unfolding read_channel_allocation read_mon_patterns row_bits
channel_allocation_every a ha t ht _ d hd c hc f hf k hk _ x hx = (
  λ _. tt,
  λ x0 m hm. (
    λ m0 v hv. (λ _. tt, λ d0. fields-again (Some v) (bits_of_nat 2 v ++ []) ha ht hd d0 hc hf hk hx x0 hm (rw (m0, lt-ltb v 4 hv)) (rw m0) (rw m0)),
    λ m0. (λ _. tt, λ d0. fields-again None [] ha ht hd d0 hc hf hk hx x0 hm (rw m0) (rw m0) (rw m0)),
  ),
)

pub channel_allocation-again : (bs : List Bool) (o : ℕ) {e : ChanAllocElement} {r : List Bool} {n : ℕ} → parse read_channel_allocation bs o ≡ got e r n
    → ChannelAllocationAgain e (take (n - o) bs)
channel_allocation-again = every_read read_channel_allocation ChannelAllocationAgain channel_allocation_every
