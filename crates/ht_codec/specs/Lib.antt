pub mod Examples
pub mod Fields
pub mod Forms
pub mod Reading
pub mod Records
pub mod Texts
pub mod Types
