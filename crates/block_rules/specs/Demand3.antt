-- Demand 3, said of lent bytes that hold a block of n bits, for every codec of headers.
use Rattle.std.specs.Prelude.{◌≡◌, ◌⊎◌, Bool, true, false, List, [], ◌∷◌, map, ℕ, ◌+◌, ◌*◌, ◌/◌, ◌≤◌, ◌<◌, eqb, leb, length, get_or, slice_get}
use Rattle.bits.specs.Bits.{bits_at, put_bits}
use Rattle.tetra_core.specs.Refusal.{unless, first}
use Rattle.block_rules.specs.Numbers.{most_bits, least_bits}
use Rattle.block_rules.specs.Extent.{Spared}
use Rattle.block_rules.specs.Codec.{HeaderReader, HeaderWriter, Codec}
use Rattle.block_rules.specs.Read.{Reading}
use Rattle.block_rules.specs.Walk.{Pdu, Entry, place, size_in, own_bits, step, Walk, follow, walk_from, walk}
use Rattle.block_rules.specs.Writer.{Writer, finish_to, good_bit, add_check, add_refusal}
use Rattle.block_rules.specs.Run.{Call, start, holds_finish, perform, refusal, run, expected}
use Rattle.block_rules.specs.Altered.{bit_at, IsPdu, Altered, AlteredOne}

-- "a block has its N bits, at most 488, inside its lent bytes"
pub record IsBlock (n : ℕ) (v : List ℕ) : Type 0 where
  pub limit : n ≤ most_bits
  pub inside : n ≤ 8 * length v

-- the entries from bit p on cover a block of n bits up to the rest, without gap or overlap: each begins where the last one ends and has 16
-- bits or more; a null PDU ends the walk, a PDU without an end too, and otherwise it goes on while 16 bits are left
pub data Covers {H : Type 0} (n : ℕ) : (p : ℕ) → List (Entry H) → (rest_at : ℕ) → Type 0 where
  end : {p : ℕ} → p ≤ n → n < p + least_bits → Covers n p [] p
  null : {p l : ℕ} → p + least_bits ≤ n → Covers n p (record { bit = p; pdu = Pdu.null l } ∷ []) (p + least_bits)
  unsized : {p j o : ℕ} → p + least_bits ≤ n → Covers n p (record { bit = p; pdu = Pdu.unsized j o } ∷ []) p
  sized : {p s rest_at : ℕ} {r : Reading H} {es : List (Entry H)} → least_bits ≤ s → Covers n (p + s) es rest_at
      → Covers n p (record { bit = p; pdu = Pdu.sized s r } ∷ es) rest_at

-- "for every other PDU the same place, header and content, or the same refusal, as before .., and neither more nor fewer entries. The altered
-- PDU keeps its place"; "rest then begins where it did"
pub record Isolated {H : Type 0} (before after : Walk H) (altered : ℕ → Bool) : Type 0 where
  pub count : length after.entries ≡ length before.entries
  pub places : map place after.entries ≡ map place before.entries
  pub others : (k : ℕ) → altered k ≡ false → slice_get after.entries k ≡ slice_get before.entries k
  pub rest : after.rest_at ≡ before.rest_at

pub record OfTheWalk {H : Type 0} (R : HeaderReader H) : Type 0 where
  -- "all steps from bit 0 to the end, each from the last one's PDU end": the walk from a bit is the step there, and what follows it
  pub steps : (n : ℕ) (v : List ℕ) → IsBlock n v → (p : ℕ) → p ≤ n → walk_from R v n p ≡ follow (walk_from R v n) p (step R v n p)
  pub covers : (n : ℕ) (v : List ℕ) → IsBlock n v → Covers n 0 (walk R v n).entries (walk R v n).rest_at
  pub count : (n : ℕ) (v : List ℕ) → IsBlock n v → length (walk R v n).entries ≤ n / least_bits
  -- header, content and fill make up the PDU; "content is the range and its bits"
  pub parts : (n : ℕ) (v : List ℕ) → IsBlock n v → (k : ℕ) (e : Entry H) → IsPdu R n v k e
      → (s m fill : ℕ) (h : H) (content : List Bool) → e.pdu ≡ Pdu.sized s (Reading.read h m content fill)
      → (m + (length content + fill) ≡ s) × (bits_at v (e.bit + m) (length content) ≡ content)
  -- "wherever the same bits are a PDU, in any block, header, content and refusal are the same, ranges counted from the PDU's first bit"
  pub own_bits_alone : (n n' : ℕ) (v v' : List ℕ) → IsBlock n v → IsBlock n' v'
      → (k k' : ℕ) (e e' : Entry H) → IsPdu R n v k e → IsPdu R n' v' k' e' → own_bits n v e ≡ own_bits n' v' e' → e.pdu ≡ e'.pdu

pub record OfAlteredPdus {H : Type 0} (R : HeaderReader H) : Type 0 where
  -- "Whatever bits anybody puts into one PDU", but for the spared ones, alter that PDU
  pub any_bits : (n : ℕ) (v : List ℕ) → IsBlock n v → (k : ℕ) (e : Entry H) → IsPdu R n v k e
      → (xs : List Bool) → length xs ≡ size_in n e → ((i : ℕ) → Spared (own_bits n v e) i → get_or xs i false ≡ get_or (own_bits n v e) i false)
      → AlteredOne R n v (put_bits v e.bit xs) k e
  pub one : (n : ℕ) (v v' : List ℕ) → IsBlock n v → IsBlock n v'
      → (k : ℕ) (e : Entry H) → AlteredOne R n v v' k e → Isolated (walk R v n) (walk R v' n) (eqb k)
  pub several : (n : ℕ) (v v' : List ℕ) → IsBlock n v → IsBlock n v'
      → (altered : ℕ → Bool) → Altered R n v v' altered → Isolated (walk R v n) (walk R v' n) altered

pub record OfARun {A H : Type 0} (C : Codec A H) : Type 0 where
  -- "After every list of adds and finishes that holds a finish, refused calls included, run from bit 0 of a block with any bytes, the walk
  -- gives exactly the accepted adds in their order, .. then the null PDU if one was written."
  pub written : (n : ℕ) (v : List ℕ) → IsBlock n v → (cs : List (Call A)) → holds_finish cs ≡ true
      → walk C.reader (run C.writer n cs (start v)).bytes n ≡ expected C n cs v
  -- "There too, with one PDU altered under the same sparing, every other PDU still reads just so."
  pub one_altered : (n : ℕ) (v v' : List ℕ) → IsBlock n v → IsBlock n v' → (cs : List (Call A)) → holds_finish cs ≡ true
      → (k : ℕ) (e : Entry H) → AlteredOne C.reader n (run C.writer n cs (start v)).bytes v' k e → Isolated (expected C n cs v) (walk C.reader v' n) (eqb k)
  pub several_altered : (n : ℕ) (v v' : List ℕ) → IsBlock n v → IsBlock n v' → (cs : List (Call A)) → holds_finish cs ≡ true
      → (altered : ℕ → Bool) → Altered C.reader n (run C.writer n cs (start v)).bytes v' altered → Isolated (expected C n cs v) (walk C.reader v' n) altered

pub record OfEachCall {A : Type 0} (W : HeaderWriter A) : Type 0 where
  -- "a refused call moves nothing"
  pub refused : (n : ℕ) (w : Writer) (c : Call A) → (refusal W n c w ≡ 0 → ⊥) → perform W n c w ≡ w
  -- "Bits past N, and bits not yet written, keep their values": only those over which the writer's bit moves may change
  pub untouched : (n : ℕ) (w : Writer) (c : Call A) (i : ℕ) → (i < w.bit) ⊎ ((perform W n c w).bit ≤ i)
      → bit_at (perform W n c w).bytes i ≡ bit_at w.bytes i
  pub same_length : (n : ℕ) (w : Writer) (c : Call A) → length (perform W n c w).bytes ≡ length w.bytes
  -- "Afterwards an add that no earlier check refuses is refused 2, and a second finish changes nothing."
  pub after_finish : (n : ℕ) (w : Writer) → IsBlock n w.bytes → good_bit n w.bit ≡ true
      → (cs : List (Call A)) → run W n cs (finish_to n w) ≡ finish_to n w
  pub add_after_finish : (n : ℕ) (v : List ℕ) → IsBlock n v → (a : A) (slice k : ℕ)
      → add_refusal W (length v) n n a slice k ≡ first (unless (leb k (8 * slice)) 13 ∷ add_check W a k ∷ 2 ∷ [])

pub record Demand3 {A H : Type 0} (C : Codec A H) : Type 0 where
  pub walks : OfTheWalk C.reader
  pub altered : OfAlteredPdus C.reader
  pub runs : OfARun C
  pub calls : OfEachCall C.writer
