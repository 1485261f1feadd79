use Rattle.std.proofs.Common.{[], ◌∷◌, arith, eq-eqb, ne_eqb}
use Rattle.codec.proofs.Laws.Header.{parsed_word, alone}
use Rattle.codec.proofs.Laws.Ahead.{held_on, onward, ahead_short, ahead_field-short}
use Rattle.mac_access.specs.MacAccess.{chosen_size, read_chosen, read_request}
use Rattle.mac_access.proofs.mac_access.read_chosen.Goals as goal

pub returns-then-a-lt1 : goal.returns-then-a-lt1
unfolding read_chosen
returns-then-a-lt1 c = record { of = λ h e. record { means = rw (c.field_past_end.ensures, ahead_field-short 1 e c.if-a-lt1.true) }; onward = tt }

pub returns-then-next_bits-eq0 : goal.returns-then-next_bits-eq0
unfolding read_chosen
returns-then-next_bits-eq0 c =
    let i = c.if-a-lt1.false in
    record {
      of = λ h e. record {
        means = rw (
          c.field_past_end-then-next_bits-eq0.ensures,
          alone (c.next_bits.ensures.word h e i),
          eq-eqb _ _ c.if-next_bits-eq0.true,
          ahead_field-short 5 (held_on 1 e i) (omega arith),
        );
      };
      onward = tt;
    }

pub returns-then-a-lt-CHOSEN_BITS : goal.returns-then-a-lt-CHOSEN_BITS
unfolding read_chosen read_request
returns-then-a-lt-CHOSEN_BITS c =
    let i = c.if-a-lt1.false in
    record {
      of = λ h e. record {
        means = rw (
          alone (c.next_bits.ensures.word h e i),
          ne_eqb _ _ c.if-next_bits-eq0.false,
          c.fields_past_end.ensures,
          ahead_short read_request (1 ∷ 4 ∷ []) (λ _ _. tt) (held_on 1 e i) (omega arith),
        );
      };
      onward = tt;
    }

pub returns-then-x-eq0 : goal.returns-then-x-eq0
unfolding read_chosen
returns-then-x-eq0 c =
    let i = c.if-a-lt-CHOSEN_BITS.false in
    record {
      of = λ h e. record {
        means = rw (parsed_word read_chosen (c.next_bits-x.ensures.word h e i), eq-eqb _ _ c.if-x-eq0.true, c.advance-after.ensures);
      };
      onward = rw c.advance-after.ensures (onward chosen_size chosen_size (omega arith) i);
    }

pub returns : goal.returns
unfolding read_chosen read_request
returns c =
    let i = c.if-a-lt-CHOSEN_BITS.false in
    record {
      of = λ h e. record {
        means = rw (
          parsed_word read_chosen (c.next_bits-x.ensures.word h e i),
          ne_eqb _ _ c.if-x-eq0.false,
          c.from_raw-req.ensures,
          c.advance-after.ensures,
        );
      };
      onward = rw c.advance-after.ensures (onward chosen_size chosen_size (omega arith) i);
    }
