-- What each call of bitbuffer.rt answers, the cursor after it, and the bytes that it leaves. Document 01, "Bits".
use Rattle.std.specs.Prelude.{ℕ, zero, suc, ◌+◌, ◌-◌, ◌*◌, ◌^◌, List, [], ◌∷◌, ◌++◌, map, Bool, true, false, ◌&&◌, length, replicate, drop, ℤ, pos, negsuc, ◌+ℤ◌, leb, ltb, Err, None, Ok, Option, Result, Some}
use Rattle.std.specs.List.{list_all}
use Rattle.bits.specs.Bits.{digit, odd, bits_at, get_bits, put_bits, bits_of_nat}
use Rattle.tetra_core.specs.Refusal.{reason, unless, first}
use Rattle.tetra_core.specs.Quantity.{octets_of, fill_of}
use Rattle.tetra_core.specs.declared.bitbuffer.Cursor.{Cursor}
use Rattle.tetra_core.specs.declared.bitbuffer.Read.{Read}
use Rattle.tetra_core.specs.declared.bitbuffer.Moved.{Moved}
use Rattle.tetra_core.specs.declared.bitbuffer.Copied.{Copied}
use Rattle.tetra_core.specs.declared.refusal.Reason.{Reason}
use Rattle.tetra_core.specs.declared.refusal.Refusal.{Refusal}

-- "It is good where start ≤ cursor ≤ end, and end is at most 65,536 and at most 8 × the bytes."
unfoldable pub good_window : ℕ → Cursor → Bool
good_window len c = leb c.start c.pos && (leb c.pos c.end && (leb c.end 65536 && leb c.end (8 * len)))

-- the bits from the cursor to the window's end
abbrev pub remaining : Cursor → ℕ
remaining c = c.end - c.pos

-- the cursor at another bit; "the cursor moves on by the bits of the field"
abbrev pub at : Cursor → ℕ → Cursor
at c p = record { start = c.start; pos = p; end = c.end }

abbrev pub moved : Cursor → ℕ → Cursor
moved c n = at c (c.pos + n)

-- ---- the forms of an answer, where the number of its refusal is j, or 0 if nothing refuses it

-- a number; "A bare field or peek gives 0" for the place of its refusal
abbrev pub answer : ℕ → ℕ → Result ℕ Refusal
answer zero v = Ok v
answer (suc j) v = Err (record { reason = reason (suc j); offset = 0 })

-- the cursor after a call, which a refusal leaves as it was
abbrev pub after : ℕ → Cursor → Cursor → Cursor
after zero c d = d
after (suc j) c d = c

-- what a call that writes, copies or moves says: "A write or length refusal is its number alone"
abbrev pub outcome : ℕ → Result (Unit {0}) Reason
outcome zero = Ok tt
outcome (suc j) = Err (reason (suc j))

-- the bytes after a call: t, or where it is refused s as they were
abbrev pub bytes_after : ℕ → List ℕ → List ℕ → List ℕ
bytes_after zero s t = t
bytes_after (suc j) s t = s

abbrev pub reads : ℕ → ℕ → Cursor → Cursor → Read ℕ
reads j v c d = record { cursor = after j c d; answer = answer j v }

abbrev pub moves : ℕ → Cursor → Cursor → Moved
moves j c d = record { cursor = after j c d; answer = outcome j }

-- a read that is refused for a reason
abbrev pub read_refused : Cursor → Reason → Read ℕ
read_refused c r = record { cursor = c; answer = Err (record { reason = r; offset = 0 }) }

-- ---- reads

-- why n bits from bit p on are not read: "read past the end, over 64 bits", and "a place before the window's start is refused with 1"
unfoldable pub read_refusal : ℕ → Cursor → ℕ → ℕ → ℕ
read_refusal len c p n =
    first (unless (good_window len c) 13 ∷ unless (leb n 64) 1 ∷ unless (leb c.start p) 1 ∷ unless (leb (p + n) c.end) 1 ∷ [])

unfoldable pub read_bits : List ℕ → Cursor → ℕ → Read ℕ
read_bits s c n = reads (read_refusal (length s) c c.pos n) (get_bits s c.pos n) c (moved c n)

-- a peek at bit p of the slice leaves the cursor
unfoldable pub peek_at : List ℕ → Cursor → ℕ → ℕ → Read ℕ
peek_at s c p n = reads (read_refusal (length s) c p n) (get_bits s p n) c c

-- a number as a signed one
abbrev pub signed : ℕ → ℤ
signed n = pos n

-- the bit of the slice at a signed place
unfoldable pub place_of : ℤ → Option ℕ
place_of (pos p) = Some p
place_of (negsuc k) = None

-- a peek at a signed offset from the cursor: a bit before bit 0 of the slice is before the window's start
abbrev pub peek_place : List ℕ → Cursor → Option ℕ → ℕ → Read ℕ
peek_place s c (Some p) n = peek_at s c p n
peek_place s c None n = reads (first (unless (good_window (length s) c) 13 ∷ 1 ∷ [])) 0 c c

unfoldable pub peek_bits_posoffset : List ℕ → Cursor → ℤ → ℕ → Read ℕ
peek_bits_posoffset s c o n = peek_place s c (place_of (signed c.pos +ℤ o)) n

-- n bits as bytes, the last one filled up with zeros: 1 where the source is too short, 2 where the destination is
unfoldable pub into_slice_refusal : ℕ → Cursor → ℕ → ℕ → ℕ
into_slice_refusal len c n room =
    first (unless (good_window len c) 13 ∷ unless (leb n (remaining c)) 1 ∷ unless (leb (octets_of n) room) 2 ∷ [])

unfoldable pub read_bits_into_slice : List ℕ → Cursor → ℕ → List ℕ → Read ℕ
read_bits_into_slice s c n buf = reads (into_slice_refusal (length s) c n (length buf)) n c (moved c n)

unfoldable pub sliced_bits : List ℕ → Cursor → ℕ → List ℕ → List ℕ
sliced_bits s c n buf =
    bytes_after (into_slice_refusal (length s) c n (length buf)) buf
    (put_bits buf 0 (bits_at s c.pos n ++ replicate (fill_of n) false))

-- the window has n bits from its cursor on, or the call is refused by j: 1 where it reads, 2 where it writes
unfoldable pub room_refusal : ℕ → ℕ → Cursor → ℕ → ℕ
room_refusal j len c n = first (unless (good_window len c) 13 ∷ unless (leb n (remaining c)) j ∷ [])

-- a byte 0 or 1 for each bit, as many as buf has bytes
unfoldable pub to_bitarr : List ℕ → Cursor → List ℕ → Read ℕ
to_bitarr s c buf = reads (room_refusal 1 (length s) c (length buf)) (length buf) c (moved c (length buf))

unfoldable pub bitarr : List ℕ → Cursor → List ℕ → List ℕ
bitarr s c buf = bytes_after (room_refusal 1 (length s) c (length buf)) buf (map digit (bits_at s c.pos (length buf)))

-- the whole window, wherever its cursor is: a byte 0 or 1 for each bit, in the first bytes of buf
abbrev pub window_len : Cursor → ℕ
window_len c = c.end - c.start

unfoldable pub bitvec_refusal : ℕ → Cursor → ℕ → ℕ
bitvec_refusal len c room = first (unless (good_window len c) 13 ∷ unless (leb (window_len c) room) 2 ∷ [])

unfoldable pub into_bitvec : List ℕ → Cursor → List ℕ → Read ℕ
into_bitvec s c buf = reads (bitvec_refusal (length s) c (length buf)) (window_len c) c c

unfoldable pub bitvec : List ℕ → Cursor → List ℕ → List ℕ
bitvec s c buf =
    bytes_after (bitvec_refusal (length s) c (length buf)) buf
    (map digit (bits_at s c.start (window_len c)) ++ drop (window_len c) buf)

-- ---- writes

-- "Write checks: width over 64, then value, then end."
unfoldable pub write_refusal : ℕ → Cursor → ℕ → ℕ → ℕ
write_refusal len c v n =
    first (unless (good_window len c) 13 ∷ unless (leb n 64) 2 ∷ unless (ltb v (2 ^ n)) 3 ∷ unless (leb n (remaining c)) 2 ∷ [])

unfoldable pub write_bits : List ℕ → Cursor → ℕ → ℕ → Moved
write_bits s c v n = moves (write_refusal (length s) c v n) c (moved c n)

unfoldable pub written : List ℕ → Cursor → ℕ → ℕ → List ℕ
written s c v n = bytes_after (write_refusal (length s) c v n) s (put_bits s c.pos (bits_of_nat n v))

-- n bits that are all b; more than 64 too, if the window has room for all
unfoldable pub write_run : List ℕ → Cursor → ℕ → Moved
write_run s c n = moves (room_refusal 2 (length s) c n) c (moved c n)

unfoldable pub run_written : Bool → List ℕ → Cursor → ℕ → List ℕ
run_written b s c n = bytes_after (room_refusal 2 (length s) c n) s (put_bits s c.pos (replicate n b))

-- n bits of the slice s at its cursor c into the slice t at its cursor d
unfoldable pub copy_refusal : ℕ → Cursor → ℕ → Cursor → ℕ → ℕ
copy_refusal tLen d sLen c n =
    first
    (unless (good_window tLen d) 13
    ∷ unless (good_window sLen c) 13
    ∷ unless (leb n (remaining c)) 1
    ∷ unless (leb n (remaining d)) 2
    ∷ [])

unfoldable pub copy_bits : List ℕ → Cursor → List ℕ → Cursor → ℕ → Copied
copy_bits t d s c n =
    let j = copy_refusal (length t) d (length s) c n in
    record { cursor = after j d (moved d n); source = after j c (moved c n); answer = outcome j }

unfoldable pub copied : List ℕ → Cursor → List ℕ → Cursor → ℕ → List ℕ
copied t d s c n = bytes_after (copy_refusal (length t) d (length s) c n) t (put_bits t d.pos (bits_at s c.pos n))

-- each byte of buf is a bit
abbrev pub are_bits : List ℕ → Bool
are_bits = list_all (λ b. ltb b 2)

unfoldable pub from_bitarr_refusal : ℕ → Cursor → List ℕ → ℕ
from_bitarr_refusal len c buf = first (unless (good_window len c) 13 ∷ unless (are_bits buf) 3 ∷ unless (leb (length buf) (remaining c)) 2 ∷ [])

unfoldable pub copy_bits_from_bitarr : List ℕ → Cursor → List ℕ → Moved
copy_bits_from_bitarr s c buf = moves (from_bitarr_refusal (length s) c buf) c (moved c (length buf))

unfoldable pub from_bitarr : List ℕ → Cursor → List ℕ → List ℕ
from_bitarr s c buf = bytes_after (from_bitarr_refusal (length s) c buf) s (put_bits s c.pos (map odd buf))

-- ---- the window itself

-- a length or a place of a window that is good
unfoldable pub window_count : ℕ → Cursor → ℕ → Result ℕ Refusal
window_count len c v = answer (unless (good_window len c) 13) v

-- a window changed into d, which has to be good too
unfoldable pub changed : ℕ → Cursor → Cursor → Moved
changed len c d = moves (unless (good_window len c && good_window len d) 13) c d

-- a seek by a signed offset
abbrev pub seek_place : ℕ → Cursor → Option ℕ → Moved
seek_place len c (Some p) = changed len c (at c p)
seek_place len c None = moves 13 c c

unfoldable pub seek_rel : ℕ → Cursor → ℤ → Moved
seek_rel len c o = seek_place len c (place_of (signed c.pos +ℤ o))

-- a window over the first n bits: "bit count over limit or slice"
abbrev pub window_of : Bool → Cursor → Result Cursor Refusal
window_of true c = Ok c
window_of false c = Err (record { reason = reason 13; offset = 0 })

unfoldable pub opened : ℕ → ℕ → Result Cursor Refusal
opened len n = window_of (good_window len (record { start = 0; pos = 0; end = n })) (record { start = 0; pos = 0; end = n })
