pub mod Answers
pub mod Draws
pub mod Examples
pub mod Loads
pub mod Requests
pub mod Sums
