pub mod MirrorLaws
pub mod ShapeLaws
pub mod CallLaws
pub mod RunLaws
pub mod Demands
