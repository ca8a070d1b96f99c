pub mod Allowances
pub mod Changes
pub mod Examples
pub mod Judging
pub mod Sets
pub mod States
