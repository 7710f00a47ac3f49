pub mod NumberLaws
pub mod PointLaws
pub mod DistanceLaws
pub mod SizeLaws
