use native.Mathlib.Omega.{arith}
use Prim.Native.Nat.{◌*◌}
use lib.ListN.{length}
use Rattle.tetra_core.specs.BitBuffer.{opened}
use Rattle.tetra_core.specs.Laws.Windows.{bad_test}
use Rattle.tetra_core.proofs.bitbuffer.from_bytes.Goals as goal

pub returns : goal.returns
unfolding opened
returns c =
    let n = length c.args.s.now in
    rw (bad_test n (record { start = 0; pos = 0; end = 8 * n }) (λ g. omega arith))
