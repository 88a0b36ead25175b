pub mod Symptoms
pub mod Reaching
