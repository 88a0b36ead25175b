pub mod Values
pub mod Openings
