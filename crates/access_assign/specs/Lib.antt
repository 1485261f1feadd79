pub mod AccessField
pub mod Usage
pub mod AccessAssign
pub mod Laws
