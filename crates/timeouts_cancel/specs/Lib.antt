pub mod Cascades
pub mod Guarding
pub mod Matches
pub mod Merges
pub mod Timers
pub mod Walks
