use Rattle.std.specs.Prelude.{◌+◌}
use native.Mathlib.Omega.{arith}
use Rattle.std.proofs.lemmas.Result.{err_from_is_err_and}
use Rattle.codec.proofs.Laws.Header.{read}
use Rattle.codec.proofs.Laws.Ahead.{held_on, onward, onward_then, on-from}
use Rattle.optional_elements.specs.Laws.Optional.{optional-short, optional_clear, optional-set}
use Rattle.optional_elements.proofs.optional.read_optional.Goals as goal

pub returns-then-a-lt1 : goal.returns-then-a-lt1
returns-then-a-lt1 g c p n f = record {
  of = λ h e. record { means = rw (c.field_past_end.ensures, optional-short p e c.if-a-lt1.true) };
  onward = tt;
}

pub returns-then-next_bits-eq0 : goal.returns-then-next_bits-eq0
returns-then-next_bits-eq0 g c p n f =
    let l = c.if-a-lt1.false in
    record {
      of = λ h e. record { means = rw (c.advance-b.ensures, optional_clear p (c.next_bits.ensures.word h e l) c.if-next_bits-eq0.true) };
      onward = rw c.advance-b.ensures (onward 1 (1 + n) (omega arith) l);
    }

pub returns-in_err-after : goal.returns-in_err-after
returns-in_err-after g c p n f =
    let l = c.if-a-lt1.false in
    let d = err_from_is_err_and c.from_residual.result c.from_residual.ensures.1 in
    let x = f _ (rw c.advance-b.ensures at c.read.ensures) in
    rw (d.1, d.2) (record {
      of = λ h e. record {
        means = rw (
          optional-set p (c.next_bits.ensures.word h e l) c.if-next_bits-eq0.false,
          read (x.of h (held_on 1 e l)) c.in_err-after.was,
        );
      };
      onward = tt;
    })

pub returns : goal.returns
returns g c p n f =
    let l = c.if-a-lt1.false in
    let x = f _ (rw c.advance-b.ensures at c.read.ensures) in
    record {
      of = λ h e. record {
        means = rw (
          optional-set p (c.next_bits.ensures.word h e l) c.if-next_bits-eq0.false,
          read (x.of h (held_on 1 e l)) c.in_ok-after.was,
        );
      };
      onward = onward_then {m = 1} (1 + n) (onward 1 1 (omega arith) l) (on-from x c.in_ok-after.was) (omega arith);
    }
