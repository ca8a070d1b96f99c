mod EscalatedRows
mod Escalating
mod Firsts
mod NewOwners
mod Notices
mod OpenDues
pub mod PublicLaws
mod TakenRows
mod TakenTables
mod Telling
