pub mod DropLaws
pub mod RemoveLaws
pub mod RemoveUnit
