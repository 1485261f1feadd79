use Rattle.std.proofs.Common.{arith, sym, eqb-true}
use Rattle.tetra_core.proofs.BitBytes.{spread_none, spread_turn}
use Rattle.tetra_core.proofs.bitarr.+spread_all.Goals as goal

pub returns-then-is_empty : goal.returns-then-is_empty
returns-then-is_empty t c = spread_none _ _ _ (eqb-true _ _ (sym c.if-is_empty.ensures))

pub returns : goal.returns
returns t c =
    let first = rw (c.split_at_mut-first.ensures.front_len, c.get_bits.ensures) at c.spread.ensures in
    spread_turn _ _ c.min-k.result _ _ first c.spread_all.ensures (omega arith) (omega arith)
