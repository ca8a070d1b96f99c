mod Averages
mod Counted
mod Cuts
mod Examples
mod Existing
mod Extremes
mod Fitting
mod Members
mod OneKind
mod Pieces
pub mod PublicLaws
mod Ranked
mod Results
mod Sought
mod Steps
mod Summed
mod Unique
