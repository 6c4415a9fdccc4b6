pub mod SearchLaws
pub mod DistinctLaws
pub mod AnswerLaws
pub mod ShapeLaws
