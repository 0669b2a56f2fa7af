pub mod Wholes
pub mod Refusals
pub mod Exact
pub mod Ranges
pub mod Steps
pub mod Readings
pub mod Narrowing
pub mod Theorems
