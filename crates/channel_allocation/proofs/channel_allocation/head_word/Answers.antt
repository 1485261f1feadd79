use Rattle.codec.proofs.Laws.Row.{row_is}
use Rattle.channel_allocation.specs.ChannelAllocation.{head_row}
use Rattle.channel_allocation.specs.Laws.ChannelAllocation.{head_fits}
use Rattle.channel_allocation.proofs.channel_allocation.head_word.Goals as goal

pub returns : goal.returns
unfolding head_row
returns c =
    rw (
      c.into_raw-a.ensures.0,
      c.timeslots_into_raw-t.ensures.0,
      c.into_raw-d.ensures.0,
      c.bit-c.ensures.0,
      c.bit-f.ensures.0,
    )
    (row_is (head_row c.args.e) (head_fits c.args.e c.requires))
