-- The single words of a stored planner.
pub mod Test
pub mod Signed
