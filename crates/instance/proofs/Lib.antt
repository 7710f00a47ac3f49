pub mod RoomLaws
pub mod GatherLaws
pub mod FineLaws
pub mod OwnerLaws
pub mod PreparedLaws
