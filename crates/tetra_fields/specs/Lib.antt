pub mod BasicSlotgrant
pub mod ReservationRequirement
pub mod UplinkAddress
pub mod UplinkHead
pub mod Laws
