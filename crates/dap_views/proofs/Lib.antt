pub mod Decoding
pub mod ShownValues
pub mod Nearest
