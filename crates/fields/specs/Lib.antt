pub mod Limits
pub mod Layout
pub mod Values
