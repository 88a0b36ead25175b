pub mod Programs
pub mod Setups
pub mod PlaceTexts
pub mod Names
