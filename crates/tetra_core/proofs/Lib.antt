pub mod BitBytes
pub mod Signed
