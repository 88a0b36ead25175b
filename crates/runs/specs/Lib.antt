pub mod Common
pub mod Moments
pub mod Reading
pub mod Faults
