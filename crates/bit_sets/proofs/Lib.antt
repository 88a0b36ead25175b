pub mod Bits
pub mod NextBits
pub mod Numbers
pub mod Differences
pub mod Reaching
