pub mod Numbers
pub mod Points
pub mod Bad
pub mod Distance
pub mod Along
pub mod Square
