use mathlib.Core.List.{[], ◌∷◌}
use native.Mathlib.Omega.{arith}
use borrow.Author.Tests.{eq-eqb, ne_eqb}
use Rattle.codec.proofs.Laws.Header.{alone}
use Rattle.codec.proofs.Laws.Ahead.{held_on, ahead_short, ahead_field-short}
use Rattle.tetra_fields.specs.UplinkHead.{read_uplink_head, read_uplink_body}
use Rattle.tetra_fields.proofs.fields.uplink_head.cut_off.Goals as goal

pub returns-then-a-w : goal.returns-then-a-w
unfolding read_uplink_head
returns-then-a-w c = record {
  of = λ h e. record { means = rw (c.field_past_end.ensures, ahead_field-short c.args.w e c.if-a-w.true) };
  onward = tt;
}

pub returns-then-next_bits-ne0 : goal.returns-then-next_bits-ne0
unfolding read_uplink_head
returns-then-next_bits-ne0 c = record {
  of = λ h e. record {
    means = rw (c.wrong_type.ensures, alone (c.next_bits.ensures.word h e c.if-a-w.false), ne_eqb _ _ c.if-next_bits-ne0.true);
  };
  onward = tt;
}

pub returns : goal.returns
unfolding read_uplink_head read_uplink_body
returns c = record {
  of = λ h e. record {
    means = rw (
      alone (c.next_bits.ensures.word h e c.if-a-w.false),
      eq-eqb _ _ c.if-next_bits-ne0.false,
      c.fields_past_end.ensures,
      ahead_short read_uplink_body (1 ∷ 1 ∷ 2 ∷ []) (λ _ _ _. tt) (held_on c.args.w e c.if-a-w.false) (omega arith),
    );
  };
  onward = tt;
}
