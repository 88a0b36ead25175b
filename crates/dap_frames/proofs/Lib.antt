pub mod Pieces
mod Reading
mod Spelled
