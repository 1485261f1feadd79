use mathlib.Core.Path.{refl}
use Rattle.optional_elements.specs.Laws.Allocation.{allocation-bounds, allocation-optional}
use Rattle.optional_elements.proofs.allocation.allocation_len.Goals as goal

pub returns : goal.returns
returns c =
    let o = allocation-optional c.args.a in
    rw (c.len.ensures, o.size) (refl, (allocation-bounds c.args.a).1)
