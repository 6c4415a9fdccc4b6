pub mod FilterLaws
pub mod AloneLaws
pub mod SoundLaws
