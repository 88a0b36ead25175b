pub mod Bounds
pub mod Counting
pub mod Rounds
pub mod Trials
