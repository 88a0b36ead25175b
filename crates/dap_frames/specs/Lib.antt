pub mod Decoding
pub mod Frames
pub mod Views
