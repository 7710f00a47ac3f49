pub mod Whole
pub mod Root
pub mod Steps
pub mod Ieee
