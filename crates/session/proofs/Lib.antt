pub mod Keeping
pub mod Worth
pub mod Entering
