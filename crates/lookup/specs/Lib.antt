pub mod Unit
pub mod Find
pub mod Files
pub mod LookUp
