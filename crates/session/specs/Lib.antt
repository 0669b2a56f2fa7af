pub mod Rows
pub mod Refusals
pub mod States
pub mod Books
pub mod Runs
pub mod Queries
