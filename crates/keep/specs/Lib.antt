pub mod Keep
pub mod Code
pub mod Legal
