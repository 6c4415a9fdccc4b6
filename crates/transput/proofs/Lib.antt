pub mod TransputLaws
