pub mod Counts
pub mod Put
pub mod Ascii
pub mod Decimal
pub mod Laws
