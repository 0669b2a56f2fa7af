pub mod Relating
pub mod WholeLaws
pub mod Bounding
pub mod TestLaws
pub mod RangeLaws
pub mod Finding
pub mod Showing
pub mod Telling
