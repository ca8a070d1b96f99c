pub mod Doors
pub mod Examples
pub mod MemoryDoors
