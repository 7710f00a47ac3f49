pub mod PageLaws
pub mod TextLaws
