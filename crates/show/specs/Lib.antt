-- What is written of a plan's text and what its pieces make, and the plan of a case.
pub mod Chunk
pub mod Case
pub mod Joined
