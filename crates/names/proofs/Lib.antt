mod LegalLaws
mod ClassLaws
mod TableLaws
pub mod NameIsLaws
