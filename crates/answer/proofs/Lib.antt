pub mod StageLaws
pub mod LowestLaws
pub mod SearchLaws
pub mod CodeLaws
pub mod RoomLaws
pub mod Truth
