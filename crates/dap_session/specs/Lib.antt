pub mod Runs
pub mod Searches
pub mod Moves
pub mod Shown
pub mod Owing
pub mod Adapters
pub mod Messages
pub mod Serving
