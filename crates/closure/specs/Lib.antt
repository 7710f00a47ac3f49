pub mod Limits
pub mod Pairs
pub mod Cycle
pub mod Flags
