mod Alike
mod Ascii
mod ByKey
mod Chains
mod Fitting
mod Going
mod Inserting
mod JsonIn
mod KeysAscend
mod Numerals
pub mod PublicLaws
mod Required
mod Room
mod Routing
mod Sound
mod Validity
mod Walks
mod Words
