pub mod Narrowing
pub mod Keeping
