pub mod RankLaws
pub mod OrderLaws
