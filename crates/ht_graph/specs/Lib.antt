pub mod Examples
pub mod Graphs
pub mod Walking
