pub mod CheckLaws
pub mod FillLaws
pub mod SortLaws
pub mod SortedLaws
