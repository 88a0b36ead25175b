pub mod Conversing
pub mod Searching
pub mod Watching
