pub mod LiveLaws
pub mod FileLaws
pub mod SequenceLaws
pub mod PlaceLaws
pub mod WalkLaws
pub mod PlainLaws
pub mod SysLaws
pub mod SoundLaws
