pub mod NameIs
pub mod Classes
