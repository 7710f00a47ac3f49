pub mod Gather
pub mod Room
pub mod Search
pub mod Prepared
