pub mod Dates
pub mod Examples
pub mod Lines
pub mod Moments
pub mod Pieces
