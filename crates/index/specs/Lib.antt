pub mod Block
pub mod Along
