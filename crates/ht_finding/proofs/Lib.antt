mod Excluding
mod PartsGiven
mod Plain
pub mod PublicLaws
mod Selecting
