pub mod Order
pub mod Nearest
pub mod Index
