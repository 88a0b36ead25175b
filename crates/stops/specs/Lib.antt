pub mod Nearest
pub mod StopPoints
pub mod Landings
pub mod SiteMoments
