pub mod Moves
pub mod Services
