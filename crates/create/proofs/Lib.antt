pub mod LegalLaws
pub mod FileLaws
pub mod PlaceLaws
pub mod MessageLaws
pub mod CreateSteps
