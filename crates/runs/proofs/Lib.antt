pub mod Common
pub mod Continuing
pub mod Longer
