pub mod Crews
pub mod Gathering
pub mod Shares
