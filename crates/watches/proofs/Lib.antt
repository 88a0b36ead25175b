pub mod Naming
pub mod Landing
pub mod Finding
