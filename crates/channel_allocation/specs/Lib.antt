pub mod ChannelAllocation
pub mod Laws
