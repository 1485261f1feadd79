use Rattle.std.proofs.Common.{arith, lit≤, eq-eqb, ne_eqb}
use Rattle.std.proofs.lemmas.Result.{IfOk-weaker}
use Rattle.codec.specs.Ahead.{Onward}
use Rattle.codec.proofs.Laws.Header.{alone}
use Rattle.codec.proofs.Laws.Ahead.{held_on, onward, onward_then, ahead_field-short}
use Rattle.mac_access.specs.MacAccess.{option_most, read_option}
use Rattle.mac_access.proofs.mac_access.read_option.Goals as goal

pub returns-then-a-lt1 : goal.returns-then-a-lt1
unfolding read_option
returns-then-a-lt1 c = record { of = λ h e. record { means = rw (c.field_past_end.ensures, ahead_field-short 1 e c.if-a-lt1.true) }; onward = tt }

pub returns-then-next_bits-eq0 : goal.returns-then-next_bits-eq0
unfolding read_option
returns-then-next_bits-eq0 c =
    let i = c.if-a-lt1.false in
    record {
      of = λ h e. record { means = rw (alone (c.next_bits.ensures.word h e i), eq-eqb _ _ c.if-next_bits-eq0.true, c.advance-after.ensures) };
      onward = rw c.advance-after.ensures (onward 1 option_most (omega arith) i);
    }

pub returns : goal.returns
unfolding read_option
returns c =
    let i = c.if-a-lt1.false in
    let f = rw c.advance-after.ensures at c.read_chosen.ensures in
    record {
      of = λ h e. record { means = rw (alone (c.next_bits.ensures.word h e i), ne_eqb _ _ c.if-next_bits-eq0.false) (f.of h (held_on 1 e i)).means };
      onward = IfOk-weaker c.read_chosen.result _ (λ x. Onward c.args.a option_most x.0) (λ x z. onward_then option_most (onward 1 1 (lit≤ tt) i) z (lit≤ tt)) f.onward;
    }
