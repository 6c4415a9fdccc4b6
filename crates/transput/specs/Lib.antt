pub mod Transput
