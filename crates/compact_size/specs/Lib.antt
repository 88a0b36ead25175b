pub mod CompactSizes
pub mod Reading
pub mod Frames
