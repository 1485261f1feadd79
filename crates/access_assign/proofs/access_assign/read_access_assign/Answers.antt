use mathlib.Core.List.{[], ◌∷◌}
use native.Mathlib.Omega.{arith}
use Rattle.std.proofs.lemmas.Result.{err_from_is_err_and}
use Rattle.codec.proofs.Laws.Header.{parsed_word}
use Rattle.codec.proofs.Laws.Ahead.{ahead_short, onward}
use Rattle.access_assign.specs.AccessAssign.{assign_size, read_access_assign}
use Rattle.access_assign.proofs.access_assign.read_access_assign.Goals as goal

pub returns-then-a-lt-SIZE : goal.returns-then-a-lt-SIZE
unfolding read_access_assign
returns-then-a-lt-SIZE c = record {
  of = λ h e. record { means = rw (c.fields_past_end.ensures, ahead_short read_access_assign (2 ∷ 6 ∷ 6 ∷ []) (λ _ _ _ _. tt) e c.if-a-lt-SIZE.true) };
  onward = tt;
}

pub returns-in_err-assign : goal.returns-in_err-assign
unfolding read_access_assign
returns-in_err-assign c =
    let d = err_from_is_err_and c.from_residual.result c.from_residual.ensures.1 in
    rw (d.1, d.2) (record {
      of = λ h e. record { means = rw (parsed_word read_access_assign (c.next_bits-x.ensures.word h e c.if-a-lt-SIZE.false)) (rw c.in_err-assign.was at c.access_assign_of.ensures _ _) };
      onward = tt;
    })

pub returns : goal.returns
unfolding read_access_assign
returns c = record {
  of = λ h e. record {
    means = rw (parsed_word read_access_assign (c.next_bits-x.ensures.word h e c.if-a-lt-SIZE.false), c.advance.ensures) (rw c.in_ok-assign.was at (c.access_assign_of.ensures) _ _);
  };
  onward = rw c.advance.ensures (onward assign_size assign_size (omega arith) c.if-a-lt-SIZE.false);
}
