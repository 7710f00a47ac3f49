pub mod AmountLaws
pub mod ClosestLaws
pub mod RapidLaws
pub mod Starred
