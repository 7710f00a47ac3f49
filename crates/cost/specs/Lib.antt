pub mod Distance
pub mod Closest
pub mod Rapid
pub mod Sequence
