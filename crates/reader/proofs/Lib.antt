pub mod WalkLaws
pub mod CardLaws
pub mod ClaimsHold
pub mod FileOrderLaws
