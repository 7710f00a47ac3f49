pub mod Search
pub mod States
pub mod Trials
pub mod Kept
pub mod Code
