use mathlib.Core.Path.{sym}
use Rattle.std.proofs.lemmas.Result.{err_from_is_err_and}
use Rattle.channel_allocation.specs.ChannelAllocation.{compute_len}
use Rattle.channel_allocation.specs.Laws.ChannelAllocation.{len-refused}
use Rattle.channel_allocation.proofs.channel_allocation.compute_len.Goals as goal

pub returns-in_err-len_refusal : goal.returns-in_err-len_refusal
unfolding compute_len
returns-in_err-len_refusal c =
    let d = err_from_is_err_and c.from_residual.result c.from_residual.ensures.1 in
    rw (d.1, d.2) (len-refused _ _ _ c.in_err-len_refusal.ensures)

pub returns : goal.returns
unfolding compute_len
returns c = rw (c.allocation_len.ensures.0, sym c.in_ok-len_refusal.ensures)
