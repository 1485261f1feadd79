use Rattle.std.proofs.Common.{◌≡◌}
use Rattle.block_walk.specs.Laws.Going.{steps_left}
use Rattle.block_lines.proofs.Texts.{Written}
use Rattle.block_lines.proofs.listing.block_text.Given as goal

abbrev pub invariant-loop-entry : goal.invariant-loop-entry
invariant-loop-entry l =
    record {
      block : l.walk.block.now ≡ l.block;
      bits : l.walk.bits ≡ l.bits;
      written : Written l.block l.bits l.initial.out l.walk.position l.out;
    }

abbrev pub decreases-loop-entry : goal.decreases-loop-entry
decreases-loop-entry l = steps_left l.bits l.walk.position
