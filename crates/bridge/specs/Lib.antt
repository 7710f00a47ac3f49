pub mod Limits
pub mod Lookup
pub mod Create
pub mod Question
pub mod Words
