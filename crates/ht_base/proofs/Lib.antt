mod Amounts
mod Ascending
mod Digits
mod Examples
mod Finding
mod Indexing
mod Leasts
mod Naming
mod Ordered
mod PeriodBounds
mod PeriodCuts
mod PeriodTexts
mod Putting
pub mod PublicLaws
pub mod Readings
mod Spelling
