pub mod Common
mod Stepping
