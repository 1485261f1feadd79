use Rattle.optional_elements.specs.Laws.Allocation.{allocation-optional}
use Rattle.optional_elements.proofs.allocation.allocation_refusal.Goals as goal

pub returns : goal.returns
returns c = rw (allocation-optional c.args.a).refusal c.refusal.ensures
