mod BodyRead
mod Buffered
mod Finding
mod Giving
mod Lengths
mod Outcomes
mod Phrases
pub mod PublicLaws
mod Steps
mod Uniqueness
mod Written
