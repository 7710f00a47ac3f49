pub mod Limits
pub mod Stages
pub mod Rules
pub mod Names
pub mod Verdict
