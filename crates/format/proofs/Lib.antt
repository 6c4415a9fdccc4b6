pub mod MapLaws
pub mod BlockLaws
pub mod WriteLaws
pub mod FormatUnit
