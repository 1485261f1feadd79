-- Demand 3, proved of downlink blocks: of the walk, the steps, the adds and the finishes that the contracts of the block's code cite.
use Rattle.block_rules.specs.Demand3.{Demand3}
use Rattle.block_rules.specs.Downlink.{downlink_codec}
use Rattle.block_rules.proofs.Laws.Demand3.{demand_3}
use Rattle.block_rules.proofs.Laws.Downlink.{downlink_laws}

pub demand_3_of_blocks : Demand3 downlink_codec
demand_3_of_blocks = demand_3 downlink_codec downlink_laws
