pub mod Places
pub mod State
pub mod Sound
pub mod Parts
