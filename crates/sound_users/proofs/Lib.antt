pub mod ShapeLaws
pub mod UserLaws
pub mod AreaLaws
