pub mod LoopLaws
pub mod FaultLaws
pub mod SpareLaws
pub mod FarLaws
pub mod NameLaws
pub mod RuleLaws
pub mod GroupLaws
