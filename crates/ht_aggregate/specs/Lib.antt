pub mod Aggregates
pub mod Examples
pub mod Frequencies
pub mod Given
pub mod Joining
pub mod Numbers
pub mod Searching
pub mod Truths
