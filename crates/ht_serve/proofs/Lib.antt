mod Continuing
mod Exchanging
mod InputEndings
pub mod PublicLaws
mod Standing
