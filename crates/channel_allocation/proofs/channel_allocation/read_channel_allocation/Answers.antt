use Rattle.std.specs.Prelude.{◌+◌, ◌/◌, ◌%◌, ◌^◌, ◌≡◌, List, [], ◌∷◌, Bool, drop, eqb, Result}
use native.Mathlib.Omega.{arith}
use borrow.Author.Tests.{eq-eqb, ne_eqb}
use Rattle.std.proofs.lemmas.Result.{err_from_is_err_and}
use Rattle.tetra_core.specs.declared.refusal.Refusal.{Refusal}
use Rattle.codec.specs.declared.Ahead.{Ahead}
use Rattle.codec.specs.Reader.{done, refuse, choose, parse, next}
use Rattle.codec.proofs.Laws.Reader.{parse_bind}
use Rattle.codec.proofs.Laws.Header.{parsed_word, read}
use Rattle.codec.specs.Ahead.{Held, part_out}
use Rattle.codec.proofs.Laws.Ahead.{held_on, ahead_short, onward, onward_then, on-from}
use Rattle.channel_allocation.specs.ChannelAllocation.{element_of, read_channel_allocation}
use Rattle.channel_allocation.specs.declared.channel_allocation.MonPatterns.{MonPatterns}
use Rattle.channel_allocation.proofs.channel_allocation.read_channel_allocation.Goals.{After-read_mon_patterns}
use Rattle.channel_allocation.proofs.channel_allocation.read_channel_allocation.Goals as goal

pub returns-then-a-lt-HEAD_BITS : goal.returns-then-a-lt-HEAD_BITS
unfolding read_channel_allocation
returns-then-a-lt-HEAD_BITS c = record {
  of = λ h e. record {
    means = rw (
      c.fields_past_end.ensures,
      ahead_short read_channel_allocation (2 ∷ 4 ∷ 2 ∷ 1 ∷ 1 ∷ 12 ∷ 1 ∷ []) (λ _ _ _ _ _ _ _ _ _. tt) e c.if-a-lt-HEAD_BITS.true,
    );
  };
  onward = tt;
}

pub returns-then-x-ne0 : goal.returns-then-x-ne0
unfolding read_channel_allocation
returns-then-x-ne0 c = record {
  of = λ h e. record {
    means = rw (parsed_word read_channel_allocation (c.next_bits-x.ensures.word h e c.if-a-lt-HEAD_BITS.false), ne_eqb _ _ c.if-x-ne0.true);
  };
  onward = tt;
}

-- it is read up to its patterns, which the answer r is of
to_patterns : (c : After-read_mon_patterns) {r : Result (Ahead × MonPatterns) Refusal} (h : List Bool) → Held h c.args.a → c.read_mon_patterns.result ≡ r
    → let a = c.args.a in let x = c.next_bits-x.result in
    parse read_channel_allocation (drop a.at h) a.at
    ≡ next (part_out r h) (λ p. parse (choose (eqb (x / 2 ^ 15 % 4) 0) (refuse 6 (a.at + 6)) (done (element_of x p))))
unfolding read_channel_allocation
to_patterns c h e was =
    let l = c.if-a-lt-HEAD_BITS.false in
    rw (
      parsed_word read_channel_allocation (c.next_bits-x.ensures.word h e l),
      eq-eqb _ _ c.if-x-ne0.false,
      parse_bind,
      read ((rw c.advance.ensures at c.read_mon_patterns.ensures).of h (held_on 23 e l)) was,
    )

pub returns-in_err-after : goal.returns-in_err-after
returns-in_err-after c =
    let p = err_from_is_err_and c.from_residual.result c.from_residual.ensures.1 in
    rw (p.1, p.2) (record {
      of = λ h e. record { means = rw (to_patterns (goal.at.returns-in_err-after c).After-read_mon_patterns h e c.in_err-after.was) };
      onward = tt;
    })

pub returns-then-x-eq0 : goal.returns-then-x-eq0
returns-then-x-eq0 c = record {
  of = λ h e. record {
    means = rw (to_patterns (goal.at.returns-then-x-eq0 c).After-read_mon_patterns h e c.in_ok-after.was, eq-eqb _ _ c.if-x-eq0.true);
  };
  onward = tt;
}

pub returns : goal.returns
returns c =
    record {
      of = λ h e. record {
        means = rw (to_patterns (goal.at.returns c).After-read_mon_patterns h e c.in_ok-after.was, ne_eqb _ _ c.if-x-eq0.false, c.element_of.ensures);
      };
      onward =
          onward_then {m = 23} 27 (rw c.advance.ensures (onward 23 23 (omega arith) c.if-a-lt-HEAD_BITS.false))
          (on-from c.read_mon_patterns.ensures c.in_ok-after.was) (omega arith);
    }
