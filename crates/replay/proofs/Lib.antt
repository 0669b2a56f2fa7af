pub mod Ending
pub mod Replying
pub mod Sessions
pub mod Telling
