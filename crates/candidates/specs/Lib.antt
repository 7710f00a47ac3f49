pub mod Direction
pub mod Along
pub mod Generate
pub mod Question
pub mod Moved
