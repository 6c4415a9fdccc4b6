pub mod Paper
pub mod Examples
pub mod FreeStretches
