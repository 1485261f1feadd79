pub mod LastOne
pub mod Answers
pub mod Added
pub mod Laws
