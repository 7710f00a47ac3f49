pub mod OperationLaws
pub mod ProductLaws
pub mod LegLaws
pub mod EdgeLaws
pub mod GoneLaws
pub mod SpotLaws
pub mod MovedLaws
pub mod Examples
