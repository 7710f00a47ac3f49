pub mod Hosts
pub mod Exports
pub mod Feeds
pub mod Pieces
pub mod Bridges
