use Rattle.std.proofs.Common.{Ok, ap, ◌∙◌}
use Rattle.block_walk.specs.Laws.Going.{null-fits}
use Rattle.block_walk.proofs.step_at.Goals as goal

pub after_entry-requires : goal.after_entry-requires
after_entry-requires c = null-fits _ _ _ c.step.ensures (c.in-Ok-Some.is ∙ ap Ok c.in-Ok-Some.field-0-is)
