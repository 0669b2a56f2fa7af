pub mod Kinds
pub mod Algebra
pub mod Dual
pub mod Reduced
pub mod Wrapping
pub mod Modular
pub mod Capped
pub mod Rows
