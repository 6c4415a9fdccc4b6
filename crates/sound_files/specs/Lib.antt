pub mod Cells
pub mod Live
pub mod Rules
pub mod Walk
