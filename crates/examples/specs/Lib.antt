pub mod Cases
pub mod Paper
pub mod ExampleUnits
pub mod Examples
pub mod FreeStretches
