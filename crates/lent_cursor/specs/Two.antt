-- Two fields in a row: the second begins where the first left the cursor.
use Rattle.std.specs.Prelude.{ℕ, List}
use Rattle.tetra_core.specs.BitBuffer.{read_bits}
use Rattle.tetra_core.specs.declared.bitbuffer.Cursor.{Cursor}
use Rattle.lent_cursor.specs.declared.two.Two.{Two}

abbrev pub two_of : List ℕ → Cursor → ℕ → ℕ → Two
two_of s c n m = record {
  first = (read_bits s c n).answer;
  second = (read_bits s (read_bits s c n).cursor m).answer;
  cursor = (read_bits s (read_bits s c n).cursor m).cursor;
}
