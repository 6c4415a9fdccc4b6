pub mod Total
pub mod Witness
