pub mod Sorting
pub mod Extremes
pub mod Ranges
pub mod Points
pub mod Landed
pub mod Visits
pub mod Exactness
