pub mod KitLaws
