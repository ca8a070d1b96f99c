mod Distinct
mod FieldLaws
mod FormLaws
mod Holding
mod LastNames
mod ListLaws
mod Loop
mod Places
pub mod PublicLaws
mod Ranges
mod RecordLaws
mod Sizes
mod Spellings
mod Steps
mod Written
