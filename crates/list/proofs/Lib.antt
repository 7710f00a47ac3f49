pub mod LineLaws
pub mod DoorLaws
pub mod Fits
