pub mod Acting
pub mod Effects
pub mod Examples
pub mod Faults
pub mod Moving
pub mod Naming
pub mod Suspending
