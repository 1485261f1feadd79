use native.Mathlib.Omega.{arith}
use borrow.Author.Tests.{eq-eqb, ne_eqb}
use Rattle.codec.proofs.Laws.Header.{alone}
use Rattle.codec.proofs.Laws.Ahead.{held_on, ahead_field-short, onward, onward_then}
use Rattle.channel_allocation.specs.ChannelAllocation.{read_mon_patterns}
use Rattle.channel_allocation.proofs.channel_allocation.read_mon_patterns.Goals as goal

pub returns-then-a-lt2 : goal.returns-then-a-lt2
unfolding read_mon_patterns
returns-then-a-lt2 c = record {
  of = λ h e. record { means = rw (c.field_past_end.ensures, ahead_field-short 2 e c.if-a-lt2.true) };
  onward = tt;
}

pub returns-then-pattern-ne0 : goal.returns-then-pattern-ne0
unfolding read_mon_patterns
returns-then-pattern-ne0 c =
    let l = c.if-a-lt2.false in
    record {
      of = λ h e. record {
        means = rw (c.advance-b.ensures, alone (c.next_bits-pattern.ensures.word h e l), ne_eqb _ _ c.if-pattern-ne0.true);
      };
      onward = rw c.advance-b.ensures (onward 2 4 (omega arith) l);
    }

pub returns-then-b-lt2 : goal.returns-then-b-lt2
unfolding read_mon_patterns
returns-then-b-lt2 c =
    let l = c.if-a-lt2.false in
    record {
      of = λ h e. record {
        means = rw (
          c.field_past_end-then-b-lt2.ensures,
          c.advance-b.ensures,
          alone (c.next_bits-pattern.ensures.word h e l),
          eq-eqb _ _ c.if-pattern-ne0.false,
          ahead_field-short 2 (held_on 2 e l) (rw c.advance-b.ensures at c.if-b-lt2.true),
        );
      };
      onward = tt;
    }

pub returns : goal.returns
unfolding read_mon_patterns
returns c =
    let l = c.if-a-lt2.false in
    let m = rw c.advance-b.ensures at c.if-b-lt2.false in
    record {
      of = λ h e. record {
        means = rw (
          c.advance.ensures,
          c.advance-b.ensures,
          alone (c.next_bits-pattern.ensures.word h e l),
          eq-eqb _ _ c.if-pattern-ne0.false,
          alone ((rw c.advance-b.ensures at c.next_bits-v.ensures).word h (held_on 2 e l) m),
        );
      };
      onward = rw (c.advance.ensures, c.advance-b.ensures) (onward_then 4 (onward 2 2 (omega arith) l) (onward 2 2 (omega arith) m) (omega arith));
    }
