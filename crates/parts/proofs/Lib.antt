pub mod ReadLaws
pub mod VerdictLaws
pub mod SearchLaws
pub mod DoorLaws
pub mod Twins
pub mod Witness
pub mod Holes
