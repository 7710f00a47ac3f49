pub mod Move
pub mod Words
