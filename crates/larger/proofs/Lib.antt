pub mod Blocks
pub mod Accepted
pub mod Larger
