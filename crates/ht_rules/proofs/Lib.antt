mod Gathering
mod Judged
pub mod PublicLaws
mod Tables
