use mathlib.Core.Path.{refl}
use native.Mathlib.Omega.{arith}
use Rattle.codec.proofs.Laws.Header.{length_left}
use Rattle.codec.proofs.Laws.Ahead.{held_ahead, held_none}
use Rattle.codec.proofs.load.Goals as goal

pub returns-then-size-o : goal.returns-then-size-o
returns-then-size-o c =
    (held_none c.args.o 0 (omega (arith, length_left c.args.s.now c.args.c c.requires c.args.o)) (omega arith), record { room = omega arith; small = omega arith }, refl)

pub returns : goal.returns
returns c =
    (held_ahead c.args.s.now c.args.c c.args.o _ c.requires refl (omega arith) c.get_ahead.ensures, record { room = omega arith; small = omega (arith, c.requires) }, refl)
