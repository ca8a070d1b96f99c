mod Acted
mod Closing
mod EffectsSound
mod Moved
mod Named
pub mod PublicLaws
