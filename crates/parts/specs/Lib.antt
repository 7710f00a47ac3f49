pub mod Twins
pub mod Holes
pub mod Witness
