pub mod Search
pub mod Tour
