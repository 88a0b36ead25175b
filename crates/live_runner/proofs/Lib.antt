pub mod Numbering
pub mod Working
pub mod Passing
