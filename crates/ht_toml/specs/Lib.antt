pub mod Documents
pub mod Entries
pub mod Examples
pub mod KeyExamples
pub mod Keys
pub mod Refusals
pub mod Tables
pub mod Values
