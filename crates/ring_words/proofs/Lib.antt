mod Common
pub mod Order
pub mod Seen
pub mod Sizes
pub mod Flags
pub mod Laws
pub mod Restoring
