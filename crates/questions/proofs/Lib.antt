pub mod OrderLaws
pub mod IndexLaws
pub mod NearestLaws
