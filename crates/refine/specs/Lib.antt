pub mod Represents
pub mod Writes
pub mod OnDisc
pub mod Leaves
pub mod Format
pub mod Claims
pub mod Demands
