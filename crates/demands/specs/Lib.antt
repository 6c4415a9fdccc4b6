pub mod FormatContract
pub mod Reserved
pub mod Slack
pub mod Whole
pub mod Listing
pub mod FreeStretches
pub mod Demands
pub mod Paper
