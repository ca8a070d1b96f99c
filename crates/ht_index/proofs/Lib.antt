mod FirstBits
mod Gathered
mod Marking
mod Members
mod Places
pub mod PublicLaws
mod Rooms
mod Setting
mod Settling
mod Slots
mod TasksLeft
