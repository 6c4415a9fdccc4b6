pub mod Catalog
pub mod Room
pub mod Grow
