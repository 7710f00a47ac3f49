pub mod PairLaws
pub mod FlagLaws
pub mod PathLaws
pub mod CountLaws
