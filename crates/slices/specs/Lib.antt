pub mod FileBlock
pub mod Take
pub mod Fit
pub mod Give
pub mod Zero
