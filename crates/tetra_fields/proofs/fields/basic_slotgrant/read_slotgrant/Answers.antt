use mathlib.Core.List.{[], ◌∷◌}
use native.Mathlib.Omega.{arith}
use Rattle.codec.proofs.Laws.Header.{parsed_word}
use Rattle.codec.proofs.Laws.Ahead.{ahead_short, onward}
use Rattle.tetra_fields.specs.BasicSlotgrant.{slotgrant_size, read_slotgrant}
use Rattle.tetra_fields.proofs.fields.basic_slotgrant.read_slotgrant.Goals as goal

pub returns-then-a-lt-SIZE : goal.returns-then-a-lt-SIZE
unfolding read_slotgrant
returns-then-a-lt-SIZE c = record {
  of = λ h e. record { means = rw (c.fields_past_end.ensures, ahead_short read_slotgrant (4 ∷ 4 ∷ []) (λ _ _. tt) e c.if-a-lt-SIZE.true) };
  onward = tt;
}

pub returns : goal.returns
unfolding read_slotgrant
returns c = record {
  of = λ h e. record {
    means = rw (parsed_word read_slotgrant (c.next_bits-x.ensures.word h e c.if-a-lt-SIZE.false), c.from_raw.ensures, c.from_raw-2.ensures, c.advance.ensures);
  };
  onward = rw c.advance.ensures (onward slotgrant_size slotgrant_size (omega arith) c.if-a-lt-SIZE.false);
}
