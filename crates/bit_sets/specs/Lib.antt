pub mod Sets
pub mod Difference
pub mod Thresholds
