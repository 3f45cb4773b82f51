-- The laws of the rectangles that are measured, and of what the call leaves.
pub mod Stepped
pub mod Filled
pub mod Left
