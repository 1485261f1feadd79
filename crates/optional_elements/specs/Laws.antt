-- The laws of the optional elements that other crates cite: of each, and of slot granting and channel allocation together,
--
-- ..-length      its bits are as many as ..Len counts; ..-bounds: at least a flag each, and at most ..Most
-- ..-told        what is known where nothing refuses it
-- ..-back        what was written is read back in its normal form, whatever follows
-- ..-optional    its refusal, its length and its bits are those of an optional element, by the element's own
-- ..-every       what is read is not refused, is in normal form, and is written as the bits that were read
--
-- Elements also has bare_encodes: no element is three flags that are not set
pub mod Optional
pub mod PowerControl
pub mod SlotGranting
pub mod Allocation
pub mod GrantAndAllocation
pub mod Elements
