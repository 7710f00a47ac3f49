pub mod Nearest
pub mod Code
