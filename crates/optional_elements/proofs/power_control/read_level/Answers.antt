use native.Mathlib.Omega.{arith}
use Rattle.codec.proofs.Laws.Header.{alone}
use Rattle.codec.proofs.Laws.Ahead.{ahead_field-short, onward}
use Rattle.optional_elements.proofs.power_control.read_level.Goals as goal

pub returns-then-a-lt-LEVEL_BITS : goal.returns-then-a-lt-LEVEL_BITS
returns-then-a-lt-LEVEL_BITS c = record {
  of = λ h e. record { means = rw (c.field_past_end.ensures, ahead_field-short 4 e c.if-a-lt-LEVEL_BITS.true) };
  onward = tt;
}

pub returns : goal.returns
returns c =
    let l = c.if-a-lt-LEVEL_BITS.false in
    record {
      of = λ h e. record { means = rw (c.advance.ensures, alone (c.next_bits-level.ensures.word h e l)) };
      onward = rw c.advance.ensures (onward 4 4 (omega arith) l);
    }
