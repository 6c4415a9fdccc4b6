pub mod PlaceLaws
pub mod BlockLaws
pub mod SysLaws
pub mod FindLaws
pub mod NamesLaws
pub mod LayerLaws
