pub mod Examples
pub mod Laws
pub mod Passes
pub mod Plays
pub mod Rule
pub mod Standing
