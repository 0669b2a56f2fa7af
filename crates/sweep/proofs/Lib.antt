pub mod Adjoints
pub mod Bends
pub mod Counting
pub mod Differentiating
pub mod Gradients
pub mod Pairing
pub mod Products
pub mod Sweeping
