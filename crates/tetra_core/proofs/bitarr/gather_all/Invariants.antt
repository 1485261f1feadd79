use Rattle.std.proofs.Common.{◌≡◌, ◌+◌, length, map}
use Rattle.std.specs.Slice.Iter.{chunks_rest, chunks_size}
use Rattle.bits.specs.Bits.{odd, put_bits, Bytes}
use Rattle.tetra_core.proofs.bitarr.gather_all.Given as goal

-- the bytes that are left, put from here on, give the whole
abbrev pub invariant-loop-chunk : goal.invariant-loop-chunk
invariant-loop-chunk l =
    let left = chunks_rest l.chunk-iterator in
    record {
      can_next : (goal.iterator-loop-chunk).can_next l.chunk-iterator;
      is_finite : (goal.iterator-loop-chunk).is_finite l.chunk-iterator;
      size : chunks_size l.chunk-iterator ≡ 64;
      bytes : Bytes l.s;
      len : length l.s ≡ length l.initial.s;
      end : l.at + length left ≡ l.pos + length l.buf;
      whole : put_bits l.s l.at (map odd left) ≡ put_bits l.initial.s l.pos (map odd l.buf);
    }
