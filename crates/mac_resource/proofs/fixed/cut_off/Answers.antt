use mathlib.Core.List.{[], ◌∷◌}
use native.Mathlib.Omega.{arith}
use borrow.Author.Tests.{eq-eqb, ne_eqb}
use Rattle.codec.proofs.Laws.Header.{alone}
use Rattle.codec.proofs.Laws.Ahead.{held_on, ahead_short, ahead_field-short}
use Rattle.mac_resource.specs.Fixed.{read_fixed, read_behind_type}
use Rattle.mac_resource.proofs.fixed.cut_off.Goals as goal

pub returns-then-a-lt2 : goal.returns-then-a-lt2
unfolding read_fixed
returns-then-a-lt2 c = record {
  of = λ h e. record { means = rw (c.field_past_end.ensures, ahead_field-short 2 e c.if-a-lt2.true) };
  onward = tt;
}

pub returns-then-next_bits-ne0 : goal.returns-then-next_bits-ne0
unfolding read_fixed
returns-then-next_bits-ne0 c = record {
  of = λ h e. record { means = rw (c.wrong_type.ensures, alone (c.next_bits.ensures.word h e c.if-a-lt2.false), ne_eqb _ _ c.if-next_bits-ne0.true) };
  onward = tt;
}

pub returns : goal.returns
unfolding read_fixed read_behind_type
returns c = record {
  of = λ h e.
      let l = c.if-a-lt2.false in
      record {
        means = rw (
          c.fields_past_end.ensures,
          alone (c.next_bits.ensures.word h e l),
          eq-eqb _ _ c.if-next_bits-ne0.false,
          ahead_short read_behind_type (1 ∷ 1 ∷ 2 ∷ 1 ∷ 6 ∷ 3 ∷ []) (λ _ _ _ _ _ _. tt) (held_on 2 e l) (omega arith),
        );
      };
  onward = tt;
}
