mod Asked
mod Links
pub mod PublicLaws
mod Turns
