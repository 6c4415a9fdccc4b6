pub mod Packed
pub mod Marked
pub mod Indexed
