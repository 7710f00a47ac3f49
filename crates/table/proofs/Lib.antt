pub mod WalkLaws
pub mod PlaceLaws
pub mod EachLaws
pub mod FillLaws
pub mod RoomLaws
pub mod DistanceLaws
pub mod NearLaws
pub mod BackLaws
