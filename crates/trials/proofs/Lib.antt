pub mod Small
pub mod Gradients
pub mod Holding
pub mod Dragging
pub mod Stepping
pub mod Making
