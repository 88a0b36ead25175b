pub mod Runs
pub mod Keeping
pub mod Pushing
pub mod Copying
pub mod Jumping
