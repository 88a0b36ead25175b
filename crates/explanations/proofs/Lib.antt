pub mod Common
pub mod Unexplained
