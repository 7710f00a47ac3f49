pub mod Answer
pub mod Code
pub mod Fault
pub mod Stage
pub mod Lowest
pub mod Room
pub mod Kinds
