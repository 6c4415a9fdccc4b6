pub mod AreaUsers
pub mod Seat
