mod Apart
mod Ascending
mod Between
mod Changing
mod InOrder
mod Leasts
mod Members
mod Moving
mod OfTwo
mod Order
mod Parts
mod Places
pub mod PublicLaws
mod Sorted
