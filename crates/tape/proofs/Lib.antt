pub mod Answering
pub mod Determining
pub mod Editing
pub mod Growing
pub mod Marking
pub mod Reading
pub mod Spreading
pub mod Sweeping
