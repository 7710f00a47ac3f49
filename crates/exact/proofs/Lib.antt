pub mod AddLaws
pub mod GridLaws
pub mod SumLaws
pub mod RouteLaws
pub mod Examples
