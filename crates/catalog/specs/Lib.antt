pub mod Catalog
pub mod Value
