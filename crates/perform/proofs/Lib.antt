pub mod NumberLaws
pub mod StateKept
pub mod ObeyLaws
pub mod Demand3
