pub mod Actors
pub mod Least
pub mod Passing
pub mod Offers
pub mod Faults
