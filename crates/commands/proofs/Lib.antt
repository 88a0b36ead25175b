pub mod Breaking
pub mod Numerals
