pub mod Sys
pub mod Legal
pub mod Names
