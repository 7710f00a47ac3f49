pub mod Walk
pub mod Evaluate
pub mod Each
pub mod Distances
