pub mod CreateLaws
pub mod BookLaws
pub mod RemoveLaws
pub mod AreaUnits
