pub mod PublicLaws
mod KeyOrder
mod ReadEntries
mod ReadRows
mod Refusing
mod Views
