pub mod Escalating
pub mod Examples
pub mod Kept
pub mod Leaving
pub mod Seeing
