pub mod BlockLaws
pub mod RoomLaws
pub mod GrowLaws
