pub mod Environment
pub mod Evaluating
pub mod ValueExamples
pub mod Values
