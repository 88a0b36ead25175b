pub mod Draws
pub mod Locks
pub mod Spots
pub mod Offers
pub mod Choosing
pub mod Samples
