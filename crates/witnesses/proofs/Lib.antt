pub mod Examples
pub mod Taken
pub mod Slit
pub mod Gridded
pub mod ReadBack
