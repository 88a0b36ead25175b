pub mod Opcodes
pub mod Check
pub mod Outcomes
pub mod Effects
