pub mod Spelling
pub mod Faults
pub mod Cursors
pub mod Limits
pub mod Setups
pub mod Reading
