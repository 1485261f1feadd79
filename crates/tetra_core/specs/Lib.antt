pub mod Refusal
pub mod Quantity
pub mod Address
pub mod BitBuffer
pub mod Laws
