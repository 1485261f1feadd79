use Rattle.std.proofs.Common.{arith, length, length-append, sym, ap, map, rules, ◌∙◌}
use Rattle.bits.specs.Bits.{odd, put_bits}
use Rattle.bits.proofs.Laws.Writes.{bytes-put_bits}
use Rattle.tetra_core.proofs.BitBytes.{gathered_lt, gather_none, gather_turn}
use Rattle.tetra_core.proofs.bitarr.gather_all.Goals as goal

pub put_bits-requires : goal.put_bits-requires
put_bits-requires c =
    let step = c.in-Some.ensures.steps in
    (omega arith, omega arith, omega arith, rw c.gather.ensures (gathered_lt c.in-Some.chunk.now))

pub loop-chunk-preserved : goal.loop-chunk-preserved
loop-chunk-preserved c =
    let l = c.loop-chunk in
    let step = c.in-Some.ensures.steps in
    let chunk = c.in-Some.chunk.now in
    let all = ap (λ bs. put_bits l.s l.at (map odd bs)) step.1.0 in
    record {
      can_next = omega arith;
      is_finite = search rules;
      size = omega arith;
      bytes = rw c.put_bits.ensures (bytes-put_bits _ _ _);
      len = omega arith;
      end = omega (arith, simp length-append at (ap length step.1.0));
      whole = gather_turn _ _ chunk _ c.gather.ensures c.put_bits.ensures (omega arith) ∙ sym all ∙ l.invariant.whole;
    }

pub returns : goal.returns
returns c =
    let l = c.loop-chunk in
    sym (gather_none l.s l.at _ l.invariant.bytes c.in-None.ensures.steps.1.0) ∙ l.invariant.whole
