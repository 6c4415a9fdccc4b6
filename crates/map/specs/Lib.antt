pub mod Marks
pub mod Choice
pub mod Stretch
