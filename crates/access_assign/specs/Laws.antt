-- The laws that other crates cite.
pub mod AccessField
pub mod Usage
pub mod AccessAssign
