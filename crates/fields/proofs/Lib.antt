pub mod ValueLaws
pub mod AskingLaws
