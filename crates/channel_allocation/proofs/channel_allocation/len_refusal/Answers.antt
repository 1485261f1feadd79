use Rattle.channel_allocation.specs.ChannelAllocation.{len_refusal}
use Rattle.channel_allocation.proofs.channel_allocation.len_refusal.Goals as goal

pub returns-in-Augmented : goal.returns-in-Augmented
unfolding len_refusal
returns-in-Augmented c = rw c.in-Augmented.is

pub returns-in-Dl : goal.returns-in-Dl
unfolding len_refusal
returns-in-Dl c = rw c.in-Dl.is

pub returns-in-Ul : goal.returns-in-Ul
unfolding len_refusal
returns-in-Ul c = rw c.in-Ul.is

pub returns-in-Both : goal.returns-in-Both
unfolding len_refusal
returns-in-Both c = rw c.in-Both.is
