pub mod Resize
pub mod Move
pub mod Rewrite
pub mod Asked
pub mod Change
