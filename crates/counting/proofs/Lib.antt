-- The count beside the walk, and columns that wrap.
pub mod Counting
pub mod Wrap
