pub mod MarkLaws
pub mod FillLaws
pub mod QuestionLaws
pub mod AnswerLaws
pub mod Words
pub mod Square
