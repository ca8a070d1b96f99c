mod Begun
mod Frames
mod InParts
mod Kept
mod Looks
mod Moments
mod Nth
mod Passed
pub mod PublicLaws
mod Quiet
mod Scans
mod Tearing
mod Writes
