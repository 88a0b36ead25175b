pub mod Watchpoints
pub mod Stops
