pub mod BlockLaws
pub mod WalkLaws
pub mod AlongLaws
pub mod CaseLaws
pub mod ReadLaws
pub mod ChangeLaws
