pub mod Blocks
pub mod Dues
pub mod Examples
pub mod Kept
pub mod Places
pub mod Queues
