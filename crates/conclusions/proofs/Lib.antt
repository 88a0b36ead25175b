pub mod Clashes
pub mod Hits
