pub mod Positions
pub mod Maps
pub mod ListTexts
pub mod PutTexts
