-- The laws of the fields that other crates cite.
pub mod BasicSlotgrant
pub mod ReservationRequirement
pub mod UplinkAddress
pub mod UplinkHead
