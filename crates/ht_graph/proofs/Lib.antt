mod Chains
mod Meeting
pub mod PublicLaws
mod Reaching
