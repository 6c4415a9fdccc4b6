pub mod DescriptionLaws
pub mod OrderLaws
pub mod RecordLaws
pub mod TurnLaws
pub mod ListingLaws
