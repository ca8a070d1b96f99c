pub mod Counts
pub mod Examples
pub mod Passing
pub mod PassLaws
pub mod Timing
pub mod Working
