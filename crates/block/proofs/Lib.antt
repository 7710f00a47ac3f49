pub mod FieldLaws
pub mod BlockLaws
pub mod Readings
