pub mod WalkLaws
pub mod SearchLaws
pub mod PlaceLaws
pub mod AnswerLaws
pub mod ValueLaws
pub mod EntryLaws
