pub mod AgainLaws
pub mod Whole
