pub mod Grid
pub mod Length
pub mod Bound
