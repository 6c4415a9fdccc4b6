pub mod BlockLaws
pub mod ZeroLaws
pub mod TakeLaws
pub mod StoreLaws
pub mod FileLaws
pub mod FitLaws
pub mod GiveLaws
