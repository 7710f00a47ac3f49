pub mod RunLaws
pub mod DoorLaws
