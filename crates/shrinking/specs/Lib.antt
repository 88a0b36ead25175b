pub mod Shrinking
