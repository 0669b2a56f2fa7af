pub mod Tapes
pub mod Drags
pub mod Poses
