pub mod ShuffleLaws
pub mod BelowLaws
pub mod GatherLaws
pub mod RouteLaws
pub mod TourLaws
pub mod Computes
