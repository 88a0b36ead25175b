mod ByteLemmas
pub mod OneToOne
mod Writing
