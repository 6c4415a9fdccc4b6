pub mod PackedLaws
pub mod WordTests
pub mod AgreeLaws
pub mod MarkLaws
pub mod RunLaws
pub mod PairLaws
pub mod IndexMarks
pub mod SingleLaws
