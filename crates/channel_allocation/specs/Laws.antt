-- The laws of the channel allocation that other crates cite.
pub mod ChannelAllocation
