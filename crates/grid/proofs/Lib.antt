pub mod UnitLaws
pub mod MoveLaws
pub mod SizeLaws
pub mod Words
