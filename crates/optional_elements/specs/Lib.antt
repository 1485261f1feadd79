pub mod Optional
pub mod PowerControl
pub mod SlotGranting
pub mod Allocation
pub mod GrantAndAllocation
pub mod Elements
pub mod Laws
