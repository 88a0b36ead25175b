pub mod Given
pub mod Serving
