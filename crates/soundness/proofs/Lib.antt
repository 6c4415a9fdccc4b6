pub mod AreaLaws
pub mod SysLaws
pub mod LayerLaws
pub mod TopLaws
