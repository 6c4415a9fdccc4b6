pub mod Filter
pub mod Scan
