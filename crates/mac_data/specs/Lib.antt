pub mod MacData
pub mod Laws
