pub mod Fields
pub mod Walk
pub mod OnCard
pub mod FileOrder
pub mod Claims
