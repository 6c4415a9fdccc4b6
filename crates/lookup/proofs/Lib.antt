pub mod UnitLaws
pub mod FindLaws
pub mod UnusedLaws
pub mod MeantLaws
pub mod LookUpLaws
pub mod FileLaws
pub mod MessageLaws
