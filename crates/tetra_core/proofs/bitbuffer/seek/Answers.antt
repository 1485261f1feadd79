use native.Mathlib.Omega.{arith}
use Prim.Native.Nat.{◌+◌}
use lib.ListN.{length}
use Rattle.tetra_core.specs.BitBuffer.{at}
use Rattle.tetra_core.specs.Laws.Windows.{changed-bad}
use Rattle.tetra_core.proofs.bitbuffer.seek.Goals as goal

pub returns-then-c-gt65536 : goal.returns-then-c-gt65536
returns-then-c-gt65536 c =
    let a = c.args in
    rw (c.unchanged.ensures, changed-bad (length a.s.now) a.c (at a.c (a.c.start + a.offset)) (λ g h. omega arith))

pub returns-then-offset-gt65536 : goal.returns-then-offset-gt65536
returns-then-offset-gt65536 c =
    let a = c.args in
    rw (c.unchanged-then-offset-gt65536.ensures, changed-bad (length a.s.now) a.c (at a.c (a.c.start + a.offset)) (λ g h. omega arith))
