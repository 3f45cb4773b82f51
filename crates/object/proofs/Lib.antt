-- That a scissor's edge reads back as the number that it is.
pub mod Edges
