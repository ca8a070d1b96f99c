mod Calls
mod Changed
mod Passes
pub mod PublicLaws
mod Shares
mod Parts
mod Staff
mod Turning
mod Whole
