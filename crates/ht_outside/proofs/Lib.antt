mod CutLaws
mod Flows
pub mod ImageLaws
mod PickLaws
pub mod PublicLaws
pub mod TornWrites
