pub mod BoundLaws
pub mod Exports
pub mod HostLaws
pub mod FeedLaws
pub mod Pieces
pub mod BridgeLaws
pub mod Bridges
