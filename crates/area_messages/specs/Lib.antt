pub mod AreaMessages
