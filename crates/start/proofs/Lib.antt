pub mod StepLaws
pub mod ChoiceLaws
pub mod FlagLaws
pub mod FreeLaws
pub mod StartLaws
