pub mod MacAccess
pub mod Laws
