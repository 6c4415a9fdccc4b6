pub mod Description
pub mod Listing
