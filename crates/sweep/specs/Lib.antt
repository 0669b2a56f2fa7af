pub mod Refusals
pub mod Forward
pub mod Reverse
pub mod Queries
pub mod Theorems
