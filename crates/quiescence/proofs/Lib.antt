pub mod InFull
pub mod Closed
pub mod Staying
