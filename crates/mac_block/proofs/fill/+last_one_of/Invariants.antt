use Prim.Native.Nat.{◌-◌}
use Rattle.mac_block.proofs.fill.+last_one_of.Given as goal

abbrev pub decreases-last_one_of : goal.decreases-last_one_of
decreases-last_one_of l = l.to - l.from
