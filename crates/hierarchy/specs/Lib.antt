pub mod Fill
pub mod Sort
pub mod Questions
pub mod Code
