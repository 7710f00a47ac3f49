pub mod LimitLaws
pub mod Filed
pub mod Before
pub mod Asking
