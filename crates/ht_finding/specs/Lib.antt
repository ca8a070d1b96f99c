pub mod Assigning
pub mod Examples
pub mod Giving
