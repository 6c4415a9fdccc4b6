pub mod Areas
pub mod Layers
pub mod Judged
