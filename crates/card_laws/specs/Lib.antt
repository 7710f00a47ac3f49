pub mod Table
pub mod Card
pub mod Orders
pub mod Joined
pub mod Write
pub mod Examples
